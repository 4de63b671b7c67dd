-- The laws of the square root. What a reader of the definition wants to know is in Correct, and case L in Cases. Assumes nothing.
-- about whole numbers
pub mod Squares
pub mod Numbers
-- about the definition
pub mod Amounts
pub mod Rounding
pub mod TakenApart
pub mod Correct
pub mod Cases
-- about the steps of the code
pub mod Patterns
pub mod Special
pub mod Newton
pub mod Karatsuba
pub mod Assembled
pub mod Quick
