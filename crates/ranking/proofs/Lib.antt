-- Laws of placing: the set bits of a word, the marked entries word by word, the order of answers, and what `rank` is lent, whole and cut; and that each statement determines how a call ends.
pub mod Lowest
pub mod Marked
pub mod Answers
pub mod Ranking
pub mod Cutting
pub mod Determined
