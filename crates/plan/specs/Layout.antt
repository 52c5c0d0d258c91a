-- How what a head gives lies in flat arrays: page 01, "Sizes" ("32 properties; 16 defines; 16 `cond` lines").
use Rattle.std.specs.Prelude.{cond, List, ℕ, ◌+◌, ◌*◌, ltb, get_or}

abbrev pub most_properties : ℕ
most_properties = 32

abbrev pub most_defines : ℕ
most_defines = 16

abbrev pub most_conditions : ℕ
most_conditions = 16

-- ---- names

-- Names have numbers: properties from 0 on, defines behind the last that a property may have, and behind all of them an undeclared name.
abbrev pub first_define : ℕ
first_define = most_properties

abbrev pub undeclared : ℕ
undeclared = first_define + most_defines

-- where names lie in a head: for each number its start and its end
abbrev pub start_of : ℕ → ℕ
start_of n = 2 * n

abbrev pub end_of : ℕ → ℕ
end_of n = 2 * n + 1

-- ---- the plan of a head

-- Expressions have rows: defines from 0 on, then `show`, `color`, and each condition with its colour behind it.
abbrev pub show_row : ℕ
show_row = most_defines

abbrev pub colour_row : ℕ
colour_row = show_row + 1

abbrev pub test_row : ℕ → ℕ
test_row k = colour_row + 1 + 2 * k

abbrev pub result_row : ℕ → ℕ
result_row k = colour_row + 2 + 2 * k

abbrev pub expressions : ℕ
expressions = test_row most_conditions

-- how many lines of each word there are
abbrev pub property_count : ℕ
property_count = 0

abbrev pub define_count : ℕ
define_count = 1

abbrev pub show_count : ℕ
show_count = 2

abbrev pub colour_count : ℕ
colour_count = 3

abbrev pub condition_count : ℕ
condition_count = 4

abbrev pub counts : ℕ
counts = condition_count + 1

-- behind the counts the set of each name, by its number
abbrev pub set_place : ℕ → ℕ
set_place n = counts + n

-- behind the sets the row of each expression: where it begins and ends in the head, and the root of its tree
abbrev pub from_place : ℕ → ℕ
from_place row = set_place undeclared + 3 * row

abbrev pub to_place : ℕ → ℕ
to_place row = set_place undeclared + 3 * row + 1

abbrev pub root_place : ℕ → ℕ
root_place row = set_place undeclared + 3 * row + 2

abbrev pub plan_size : ℕ
plan_size = from_place expressions

-- the number at a place of a plan; there is none behind the last
abbrev pub number_at : List ℕ → ℕ → ℕ
number_at plan place = cond (ltb place plan_size) (get_or plan place 0) 0
