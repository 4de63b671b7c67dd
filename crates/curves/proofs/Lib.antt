-- Demand 3, whole (Demand); the laws of Coons' formula (formula); 02's corner stones and strips (Stones, Strips); and laws that functions of several
-- modules go by. The other laws stand by the modules of the code. Assumes nothing.
pub mod Clear
pub mod Demand
pub mod Filling
pub mod formula
pub mod Stones
pub mod Strips
