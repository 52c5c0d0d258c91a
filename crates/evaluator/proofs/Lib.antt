-- The third demand: an accepted expression meets no fault, and a plain one is refused exactly if some values make it fail
pub mod Sound
pub mod Complete
pub mod Answers
-- Of what is entered while a value is worked out nothing faults
pub mod Entries
-- Theorems about the definitions: literals, page 01's examples, names that are resolved
pub mod Literals
pub mod Examples
pub mod Named
-- `&&` and `||` beside the operations on both their sides
pub mod Lazy
-- A string's place does not count
pub mod Alike
-- The arrays of values: what is stored is read back, and changes no other number's value
pub mod Stored
-- What the functions' proofs lean on
pub mod Law
