-- Lines and fields: page 01, "What the painter reads" ("Text lines, each ended by LF (the last may lack it), fields parted by one tab.").
use Rattle.std.specs.Prelude.{true, false, cond, not, List, [], ◌∷◌, ℕ, zero, suc, ◌+◌, eqb, ltb, length, get_or, drop}
use Rattle.lexer.specs.Bytes.{run}
use Rattle.words.specs.Table.{before}
use Rattle.text.specs.declared.part.Part.{Part}

-- The parts of a text, each ended by one byte (the last may lack it). `end` is what stands for the end of the text: no part for lines, one
-- empty part for fields.
abbrev pub parts_before : List (List ℕ) → ℕ → List ℕ → List (List ℕ)
parts_before end b [] = end
parts_before end b (x ∷ xs) = elim (eqb x b) [ true ↦ [] ∷ parts_before end b xs | false ↦ before x (parts_before end b xs) ]

-- "each ended by LF (the last may lack it)": after the last LF there is no further line; LF is 10
abbrev pub lines : List ℕ → List (List ℕ)
lines text = parts_before [] 10 text

-- how many bytes lines have, with the LF that ends each
abbrev pub bytes_of : List (List ℕ) → ℕ
bytes_of [] = 0
bytes_of (l ∷ ls) = suc (length l + bytes_of ls)

-- parted by one byte: there is one part more than such bytes
abbrev pub parted : ℕ → List ℕ → List (List ℕ)
parted b text = parts_before ([] ∷ []) b text

-- "fields parted by one tab", which is 9
abbrev pub fields : List ℕ → List (List ℕ)
fields line = parted 9 line

abbrev pub field : List ℕ → ℕ → List ℕ
field line i = get_or (fields line) i []

-- ---- places

-- where a part begins: behind those before it and the bytes that end them
abbrev pub start_in : List (List ℕ) → ℕ → ℕ
start_in [] i = 0
start_in (p ∷ ps) zero = 0
start_in (p ∷ ps) (suc i) = suc (length p + start_in ps i)

abbrev pub field_start : List ℕ → ℕ → ℕ
field_start line i = start_in (fields line) i

-- where a part lies, or the end of the text if it has none with that index
unfoldable pub part_at : ℕ → List ℕ → ℕ → Part
part_at b text i =
    let ps = parted b text in
    cond (ltb i (length ps)) (record { start = start_in ps i; end = start_in ps i + length (get_or ps i []) })
    (record { start = length text; end = length text })

-- where the part ends that begins at a place
abbrev pub end_from : ℕ → List ℕ → ℕ → ℕ
end_from b text at = at + run (λ x. not (eqb x b)) (drop at text)
