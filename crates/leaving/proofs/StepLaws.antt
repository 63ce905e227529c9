-- The sweep's steps: the row at place p joins, stays out, or takes the lightest one's place.
use mathlib.Core.Path.{◌≡◌, sym, ap, ◌∙◌}
use mathlib.Core.Logic.{inl, inr}
use mathlib.Core.Bool.{Bool, true, false, true≢false}
use Prim.Native.Nat.{ℕ, suc, ◌+◌, ◌≤◌, ◌<◌}
use native.Mathlib.Omega.{arith}
use Rattle.theory.specs.Tests.{leb?, eqb?}
use Rattle.leaving.specs.Sweep.{tally, before, smaller, Barred, Mid}
use Rattle.leaving.proofs.TallyLaws.{tally_yes, tally_no, tally_zero, tally_same, tally_off, tally_le, tally_more}
use Rattle.leaving.proofs.TallyLaws.{before_yes, before_no, before_1, smaller_yes, smaller_no}

-- NOTHING YET
pub mid_none : (K D : ℕ → ℕ) (κ : ℕ → Bool) → Mid K D κ 0 0
mid_none K D κ =
    record {
      all = tally_zero (λ _. 1) κ;
      fits = λ e. omega (arith, tally_zero (before D e) κ);
      out = λ j h. absurd (omega (arith, h));
    }

-- once every slot up to s is filled: a row due by then whose key no row kept reaches
barred_full : (K D : ℕ → ℕ) (κ : ℕ → Bool) (p s j : ℕ) → D j ≤ s → suc s ≤ tally (λ _. 1) κ p →
    ((i : ℕ) → i < p → κ i ≡ true → (K i < K j) × (D i ≤ s)) → Barred K D κ p j
barred_full K D κ p s j h full under =
    record {
      at = suc s;
      past = omega (arith, h);
      full = omega (
        arith,
        full,
        tally_le (λ _. 1) (smaller K D (K j) (suc s)) κ p (λ i a b.
            let u = under i a b in omega (arith, smaller_yes K D (K j) (suc s) i u.0, before_yes D (suc s) i (omega (arith, u.1)))),
      );
    }

-- more rows kept
barred_more : (K D : ℕ → ℕ) (κ : ℕ → Bool) (p q j : ℕ) → p ≤ q → Barred K D κ p j → Barred K D κ q j
barred_more K D κ p q j h b =
    record { at = b.at; past = b.past; full = omega (arith, b.full, tally_more (smaller K D (K j) b.at) κ p q h) }

module _ (K D : ℕ → ℕ) (p count : ℕ) (rises : (q : ℕ) → q ≤ p → D q ≤ D p) where
  -- A SLOT IS FREE
  pub joins : (κ : ℕ → Bool) → Mid K D κ p count → κ p ≡ true → count ≤ D p → Mid K D κ (suc p) (suc count)
  joins κ M on free =
      record {
        all = omega (arith, tally_yes (λ _. 1) κ p on, M.all);
        fits = λ e. elim (leb? e (D p)) [
          | inl a ↦ omega (arith, tally_yes (before D e) κ p on, M.fits e, before_no D e p a.1)
          | inr a ↦ omega (
            arith,
            a.1,
            free,
            M.all,
            tally_yes (before D e) κ p on,
            before_1 D e p,
            tally_le (before D e) (λ _. 1) κ p (λ j b c. before_1 D e j),
          )
        ];
        out = λ j h e. elim (eqb? j p) [
          | inl a ↦ absurd (true≢false (sym on ∙ sym (ap κ a.1) ∙ e))
          | inr a ↦ let d = a.1 in barred_more K D κ p (suc p) j (omega arith) (M.out j (omega (arith, h)) e)
        ];
      }

  -- NO SLOT IS FREE, and no row kept is lighter
  pub stays : (κ λ' : ℕ → Bool) → Mid K D κ p count → λ' p ≡ false → ((j : ℕ) → j < p → λ' j ≡ κ j) → D p < count →
      ((j : ℕ) → j < p → κ j ≡ true → K j < K p) → Mid K D λ' (suc p) count
  stays κ λ' M off same full under =
      record {
        all = omega (arith, tally_no (λ _. 1) λ' p off, one, M.all);
        fits = λ e. omega (arith, tally_no (before D e) λ' p off, tally_same (before D e) λ' κ p same, M.fits e);
        out = λ j h e. elim (eqb? j p) [
          | inl a ↦
              let q : j ≡ p = a.1 in
              rw q (barred_more K D λ' p (suc p) p (omega arith)
              (barred_full K D λ' p (D p) p (omega arith) (omega (arith, one, M.all, full))
              (λ i b c. (under i b (sym (same i b) ∙ c), rises i (omega (arith, b))))))
          | inr a ↦
              let d = a.1 in
              let k : j < p = omega (arith, h) in
              let b = M.out j k (sym (same j k) ∙ e) in
              barred_more K D λ' p (suc p) j (omega arith) (record {
                at = b.at;
                past = b.past;
                full = omega (arith, b.full, tally_same (smaller K D (K j) b.at) λ' κ p same);
              })
        ];
      }
    where
      one : tally (λ _. 1) λ' p ≡ tally (λ _. 1) κ p
      one = tally_same (λ _. 1) λ' κ p same

  -- THE LIGHTEST, at place z, leaves for it
  module _ (κ λ' : ℕ → Bool) (M : Mid K D κ p count) (z : ℕ) (hz : z < p) (on : κ z ≡ true) (off : λ' z ≡ false) (came : λ' p ≡ true)
      (same : (j : ℕ) → j < p → (j ≡ z → ⊥) → λ' j ≡ κ j) (full : D p < count)
      (most : (j : ℕ) → j < p → κ j ≡ true → (j ≡ z → ⊥) → K j < K z) (over : K p < K z) where
    -- what a sum loses and gains
    less : (f : ℕ → ℕ) → tally f λ' p + f z ≡ tally f κ p
    less f = tally_off f κ λ' p z hz on off same

    gains : (f : ℕ → ℕ) → tally f λ' (suc p) + f z ≡ tally f κ p + f p
    gains f = omega (arith, less f, tally_yes f λ' p came)

    all_now : tally (λ _. 1) λ' (suc p) ≡ count
    all_now = omega (arith, gains (λ _. 1), M.all)

    -- the rows kept now
    now_kept : (j : ℕ) → j < suc p → λ' j ≡ true → (K j < K z) × (D j ≤ D p)
    now_kept j h e = elim (eqb? j p) [
      | inl a ↦ (omega (arith, over, ap K a.1), omega (arith, ap D a.1))
      | inr a ↦
          let d = a.1 in
          let k : j < p = omega (arith, h) in
          let n : j ≡ z → ⊥ = λ q. true≢false (sym e ∙ ap λ' q ∙ off) in
          (most j k (sym (same j k n) ∙ e) n, rises j (omega (arith, k)))
    ]

    barred_now : (j : ℕ) → K z ≤ K j → D j ≤ D p → Barred K D λ' (suc p) j
    barred_now j g e =
        barred_full K D λ' (suc p) (D p) j e (omega (arith, all_now, full)) (λ i a b. let u = now_kept i a b in (omega (arith, g, u.0), u.1))

    barred_on : (j : ℕ) → j < p → Barred K D κ p j → Barred K D λ' (suc p) j
    barred_on j h b = elim (leb? (K j) (K z)) [
      | inl a ↦ record {
        at = b.at;
        past = b.past;
        full = omega (arith, b.full, gains (smaller K D (K j) b.at), smaller_no K D (K j) b.at z a.1);
      }
      | inr a ↦ barred_now j (omega (arith, a.1)) (rises j (omega (arith, h)))
    ]

    pub exchanges : Mid K D λ' (suc p) count
    exchanges =
        record {
          all = all_now;
          fits = λ e. elim (leb? e (D p)) [
            | inl a ↦ omega (arith, M.fits e, gains (before D e), before_no D e p a.1)
            | inr a ↦ omega (arith, M.fits e, gains (before D e), before_1 D e p, before_yes D e z (omega (arith, a.1, rises z (omega (arith, hz)))))
          ];
          out = λ j h e. elim (eqb? j p) [
            | inl a ↦ absurd (true≢false (sym came ∙ sym (ap λ' a.1) ∙ e))
            | inr a ↦
                let d = a.1 in
                let k : j < p = omega (arith, h) in
                elim (eqb? j z) [
                  | inl b ↦ barred_now j (omega (arith, ap K b.1)) (rises j (omega (arith, k)))
                  | inr b ↦ barred_on j k (M.out j k (sym (same j k b.1) ∙ e))
                ]
          ];
        }
