-- A LISTING ACCEPTED: its count, the entries of what it shows, the plan's in canonical order, the old ones behind: listings, plan_listings.
use Rattle.std.specs.Prelude.{◌≡◌, List, map, ℕ, ◌≤◌, length, drop}
use Rattle.std.proofs.Common.{sym, ap, ◌∙◌, inl, inr, arith, take_at, drop_at}
use Rattle.std.proofs.lemmas.List.{length-map}
use Rattle.rules.specs.Rows.{Row, Round, sorted, canonical}
use Rattle.rules.specs.Plan.{planned, listed}
use Rattle.rules.specs.Table.{round_in, table_refusal}
use Rattle.rules.specs.Looking.{Shown, list_refusal, list_answer, list_left, the_plan, shows}
use Rattle.rules.specs.Demands.{Listings, PlanListings}
use Rattle.theory.specs.Tests.{ltb?}
use Rattle.theory.specs.Sum.{sum_sorted, length_sum}
use Rattle.theory.specs.Full.{Fine}
use Rattle.theory.specs.Same.{listed_planned}
use Rattle.theory.specs.Sane.{sound}
use Rattle.rules.specs.Calls.{first_of}
use Rattle.theory.specs.Stays.{first_none}

-- as many rows listed as the plan has
pub length_sorted : (xs : List Row) → length (sorted canonical xs) ≡ length xs
length_sorted xs = omega (arith, length_sum (sorted canonical xs), length_sum xs, sum_sorted (λ x. 1) canonical xs)

pub length_listed : (r : Round) → Fine r → length (listed r) ≡ length (planned r)
length_listed r f = ap length (listed_planned r f) ∙ length_sorted (planned r)

-- ACCEPTED: the table is sound, nothing comes before 12, and the items have room
pub list_accepted : {A : Type 0} (shown : Round → Shown A) (t : List ℕ) (n : ℕ) → list_refusal shown t n ≡ 0 →
    (table_refusal t ≡ 0) × (first_of (shown (round_in t)).early ≡ 0) × (length (shown (round_in t)).items ≤ n)
unfolding list_refusal
list_accepted shown t n e =
    let s = shown (round_in t) in
    let a = first_none (table_refusal t) _ e in
    let b = first_none (first_of s.early) _ a.1 in
    (a.0, b.0, elim (ltb? n (length s.items)) [ inl h ↦ absurd (omega (arith, rw h.0 at b.1)) | inr h ↦ h.1 ])

pub listings : Listings
unfolding Listings list_answer list_left
listings A E shown entry t es e =
    let xs = (shown (round_in t)).items in
    let m : length (map entry xs) ≡ length xs = length-map xs entry in
    let rest = drop (length xs) es in (
      rw e,
      (list_accepted shown t (length es) e).2,
      rw e (take_at (map entry xs) rest (length xs) m),
      rw e (drop_at (map entry xs) rest (length xs) m),
    )

-- THE PLAN: its rows in canonical order
pub plan_listings : PlanListings
unfolding PlanListings Listings shows
plan_listings E entry t es e =
    let r = round_in t in
    let f = (sound t (list_accepted (shows the_plan) t (length es) e).0).sane.fine in
    let h = listings Row E (shows the_plan) entry t es e in
    rw (sym (length_listed r f)) (h.0, h.1, h.2 ∙ ap (map entry) (listed_planned r f), h.3)
