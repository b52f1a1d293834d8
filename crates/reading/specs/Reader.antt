-- Section 3, reading a whole frame: empty SHORT; START; one byte only SHORT; LENGTH; fewer than Length + 2 SHORT; more TAIL; SUM; KIND.
-- Assumes nothing.
use Rattle.std.specs.Prelude.{ℕ, ◌+◌, ◌-◌, List, [], ◌∷◌, ltb, eqb, length, get_or, take, drop, Result, Ok, Err}
use Rattle.refusals.specs.Pick.{pick}
use Rattle.frame.specs.Frame.{checksum, START, RES, MIN_LENGTH}
use Rattle.refusals.specs.Refusals.{number_of}
use Rattle.refusals.specs.declared.Refusal.{Refusal}
use Rattle.refusals.specs.declared.Refusal.TheVariants as refusal
use Rattle.reading.specs.declared.reader.Parts.{Parts}

abbrev pub frame_parts : ℕ → ℕ → ℕ → Parts
frame_parts kind command count = record { kind = kind; command = command; count = count }

-- A refusal returns its number alone; a frame is told by 0, Type, Command and the number of parameters.
abbrev pub reading_told : Result Parts Refusal → List ℕ
reading_told (Err k) = number_of k ∷ []
reading_told (Ok parts) = 0 ∷ parts.kind ∷ parts.command ∷ parts.count ∷ []

-- SUM, KIND, and the parts: by what the checksum has to be, and the last byte
abbrev pub parts_of : ℕ → ℕ → ℕ → ℕ → ℕ → Result Parts Refusal
parts_of kind command len sum last =
    pick (eqb sum last)
    (pick (ltb RES kind) (Err refusal.Kind)
    (Ok (frame_parts kind command (len - 3))))
    (Err refusal.Sum)

-- of bytes that are as many as their Length says
abbrev pub measured_of : List ℕ → ℕ → Result Parts Refusal
measured_of bytes len = parts_of (get_or bytes 2 0) (get_or bytes 3 0) len (checksum (take len (drop 1 bytes))) (get_or bytes (len + 1) 0)

-- of bytes that begin with 01 and a Length
abbrev pub sized_of : List ℕ → ℕ → Result Parts Refusal
sized_of bytes len =
    pick (ltb len MIN_LENGTH) (Err refusal.Length)
    (pick (ltb (length bytes) (len + 2)) (Err refusal.Short)
    (pick (ltb (len + 2) (length bytes)) (Err refusal.Tail)
    (measured_of bytes len)))

abbrev pub read : List ℕ → Result Parts Refusal
read bytes =
    pick (eqb (length bytes) 0) (Err refusal.Short)
    (pick (eqb (get_or bytes 0 0) START)
    (pick (eqb (length bytes) 1) (Err refusal.Short)
    (sized_of bytes (get_or bytes 1 0)))
    (Err refusal.Start))

-- the parameters of a frame that reads
abbrev pub parameters_of : List ℕ → ℕ → List ℕ
parameters_of bytes n = take n (drop 4 bytes)
