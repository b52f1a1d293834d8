-- What is put into the output, in characters. Document 01 says nothing of text, so these are our own definitions.
-- Assumes nothing.
use Rattle.std.specs.Prelude.{◌≡◌, ℕ, ◌+◌, ◌/◌, ◌%◌, ◌≤◌, ◌==◌, if◌then◌else◌, Bool, true, false, List, [], ◌∷◌, ◌++◌, length, slice_index, flat_map, codes, decimal, Result, IsOk, OnOk}
use Rattle.arrayvec.specs.ArrayVec.{ArrayVec, Extends, array_vec_len}

-- a text has room behind what waits
abbrev pub HasRoom : ArrayVec ℕ → List ℕ → Type 0
HasRoom waiting text = array_vec_len waiting + length text ≤ 65536

-- a text was put: what was written and what waits now is what waited and the text. Nothing is lost, and nothing comes between
abbrev pub Follows : ArrayVec ℕ → List ℕ → ArrayVec ℕ → Type 0
Follows before text after = (written : List ℕ) × (written ++ after.items ≡ before.items ++ text)

-- so it is where the answer is Ok; where there is room that is so, and nothing is written
abbrev pub Puts : {E : Type 0} → ArrayVec ℕ → List ℕ → Result (Unit {0}) E → ArrayVec ℕ → Type 0
Puts before text result after = OnOk result (Follows before text after) × (HasRoom before text → IsOk result × Extends before text after)

-- c is the last that waits
abbrev pub Ends : ArrayVec ℕ → ℕ → Type 0
Ends waiting c = (front : List ℕ) × (waiting.items ≡ front ++ c ∷ [])

-- a byte as two hexadecimal digits, in upper case
abbrev pub hex : ℕ → List ℕ
hex b = slice_index (codes "0123456789ABCDEF") (b / 16) ∷ slice_index (codes "0123456789ABCDEF") (b % 16) ∷ []

-- bytes as hexadecimal digits, `-` where there are none
abbrev pub bytes_text : List ℕ → List ℕ
bytes_text bytes = if length bytes == 0 then codes "-" else flat_map hex bytes

-- why a call is refused, by its number
abbrev pub refused_text : ℕ → List ℕ
refused_text number = codes " refused=" ++ decimal number

-- the end of a line, with SPILL or without
abbrev pub end_text : Bool → List ℕ
end_text true = codes " SPILL\n"
end_text false = codes "\n"
