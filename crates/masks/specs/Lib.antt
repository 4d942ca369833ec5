-- How many ones a number has under a mask.
pub mod Masks
