-- Section 3: the number of each refusal, and its name.
-- Assumes nothing.
use Rattle.std.specs.Prelude.{ℕ, List, codes}
use Rattle.refusals.specs.declared.Refusal.{Refusal}
use Rattle.refusals.specs.declared.Refusal.TheVariants.{Room, Busy, Kind, Long, Short, Start, Length, Tail, Sum, Form, Range}

abbrev pub number_of : Refusal → ℕ
number_of Room = 1
number_of Busy = 2
number_of Kind = 3
number_of Long = 4
number_of Short = 5
number_of Start = 6
number_of Length = 7
number_of Tail = 8
number_of Sum = 9
number_of Form = 10
number_of Range = 11

abbrev pub name_of : Refusal → List ℕ
name_of Room = codes "ROOM"
name_of Busy = codes "BUSY"
name_of Kind = codes "KIND"
name_of Long = codes "LONG"
name_of Short = codes "SHORT"
name_of Start = codes "START"
name_of Length = codes "LENGTH"
name_of Tail = codes "TAIL"
name_of Sum = codes "SUM"
name_of Form = codes "FORM"
name_of Range = codes "RANGE"
