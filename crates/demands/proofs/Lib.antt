-- The lab's demands, a file for each: what is listed (Within, Nearest), what is opened and counted (Count, Tested, Edges), what the answers depend on (Locality),
-- what a verdict says (Verdict), who is not among the answers (Limits), what a mask of all ones and one of zeros ask (Masks); Proposition 2 of 003, and what follows (Corollaries). The other files are the way there.
pub mod Sound
pub mod Trusting
pub mod Listing
pub mod Owning
pub mod Reaching
pub mod Agreeing
pub mod Proposition2
pub mod Within
pub mod Nearest
pub mod Count
pub mod Tested
pub mod Edges
pub mod Locality
pub mod Verdict
pub mod Batches
pub mod Limits
pub mod Corollaries
pub mod Masks
