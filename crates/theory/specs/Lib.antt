-- tests and sums
pub mod Tests
pub mod Sum
pub mod All
pub mod Order
pub mod Top
pub mod Change
-- feasible sets
pub mod Feas
pub mod Times
-- rows within bounds
pub mod Bounds
-- the plan
pub mod Full
pub mod Same
pub mod Border
pub mod Unique
pub mod Select
pub mod Members
pub mod Totals
pub mod Listed
-- marks
pub mod Marks
pub mod Tights
pub mod MarksFall
pub mod Alike
pub mod Slack
-- substitutes and the pick
pub mod Golden
pub mod Score
pub mod Substitute
pub mod Best
pub mod Picks
pub mod PlanM
-- steps
pub mod Send
pub mod Turn
pub mod Gone
pub mod Leap
pub mod Chain
pub mod Leaping
pub mod Close
pub mod SlotOver
pub mod Links
pub mod LeapRows
pub mod Ordinary
pub mod Steps
pub mod StepsOnly
pub mod RowByRow
-- tables
pub mod Fields
pub mod Layout
pub mod Back
pub mod Clauses
pub mod Judge
pub mod Judged
pub mod Soundness
pub mod Write
-- calls
pub mod Calls
pub mod Sane
pub mod Stays
pub mod Checks
pub mod Refusals
pub mod Outcomes
pub mod Unchanged
pub mod Listings
pub mod Replies
pub mod Third
pub mod Opened
pub mod Sealed
pub mod SealedCalls
pub mod SealedList
pub mod Classes
pub mod PlayedOut
-- lines
pub mod Digits
pub mod Numerals
pub mod Lines
pub mod Broken
pub mod Reader
pub mod Complete
pub mod Printing
pub mod Served
pub mod Reads
-- indices and certificates, for code
pub mod Keys
pub mod Flags
pub mod Index
pub mod Near
pub mod First
pub mod Count
pub mod Segments
pub mod Lead
pub mod Whole
pub mod Cover
pub mod Sender
