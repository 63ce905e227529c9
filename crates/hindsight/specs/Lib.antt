-- rows counted, and what they are worth
pub mod Tails
pub mod Occurs
pub mod Worth
pub mod Passing
pub mod LeapRank
-- the golden ratio, and the row picked
pub mod Fibonacci
pub mod Picked
pub mod OwnSlot
-- the rival's stash
pub mod Stash
pub mod Settling
-- the chain of a leap
pub mod Places
pub mod PlaceSteps
pub mod ChainEnd
pub mod ChainWalk
pub mod ChainGives
pub mod LeapStage
pub mod LeapCases
pub mod Shifts
-- a step
pub mod Step
pub mod OrdinaryStep
pub mod LeapMade
pub mod LeapToRow
pub mod LeapToBlank
pub mod LeapStep
-- a round: B is the most, and within the golden ratio of S
pub mod OverCalls
pub mod Most
pub mod Booking
pub mod Potential
pub mod GoldenBound
-- and S is no more than B
pub mod Waiting
pub mod FramesLeft
pub mod SentCould
