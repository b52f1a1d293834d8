-- Bytes put out, cut from the front into single bytes and whole frames. Nothing here knows of the link.
-- Assumes nothing.
use Rattle.std.specs.Prelude.{ℕ, zero, suc, ◌+◌, ◌≡◌, List, [], ◌∷◌, ◌++◌, eqb, length, take, drop, get_or}
use Rattle.refusals.specs.Pick.{pick}
use Rattle.frame.specs.Frame.{START, ACK, NAK, CAN}
use Rattle.rules.specs.declared.Role.{Role}
use Rattle.rules.specs.declared.Role.TheVariants.{Module}

pub data Piece : Type 0 where
  single : ℕ → Piece
  whole : List ℕ → Piece

-- A byte that is not 01 is single; 01 begins a frame of Length + 2 bytes. Here n is how many pieces at most.
abbrev pub cut_into : ℕ → List ℕ → List Piece
cut_into zero l = []
cut_into (suc n) [] = []
cut_into (suc n) (b ∷ l) =
    pick (eqb b START) (whole (take (get_or l 0 0 + 2) (b ∷ l)) ∷ cut_into n (drop (get_or l 0 0 + 2) (b ∷ l)))
    (single b ∷ cut_into n l)

abbrev pub cut : List ℕ → List Piece
cut l = cut_into (length l) l

abbrev pub frames_of : List Piece → List (List ℕ)
frames_of [] = []
frames_of (single b ∷ ps) = frames_of ps
frames_of (whole f ∷ ps) = f ∷ frames_of ps

-- the frames found
abbrev pub frames : List ℕ → List (List ℕ)
frames l = frames_of (cut l)

-- the single bytes found
abbrev pub singles_of : List Piece → List ℕ
singles_of [] = []
singles_of (single b ∷ ps) = b ∷ singles_of ps
singles_of (whole f ∷ ps) = singles_of ps

abbrev pub singles : List ℕ → List ℕ
singles l = singles_of (cut l)

-- 06 or 15: what a link answers a frame with, and puts out at a restart; and 18, of a stand-in alone
pub data IsAnswer (role : Role) : ℕ → Type 0 where
  ack : IsAnswer role ACK
  nak : IsAnswer role NAK
  can : role ≡ Module → IsAnswer role CAN

-- the bytes of the pieces, one behind the other
abbrev pub joined : List Piece → List ℕ
joined [] = []
joined (single b ∷ ps) = b ∷ joined ps
joined (whole f ∷ ps) = f ++ joined ps
