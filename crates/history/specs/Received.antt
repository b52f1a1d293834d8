-- The bytes received in a history, in order, and bytes given one by one.
-- Assumes nothing.
use Rattle.std.specs.Prelude.{ℕ, List, [], ◌∷◌, ◌++◌, take}
use Rattle.rules.specs.Rules.{Rules}
use Rattle.link.specs.Out.{byte_out, run_out}
use Rattle.link.specs.declared.link.Link.{Link}
use Rattle.history.specs.Perform.{What, byte, bytes, tick, send, session, restart, Call, Done, refused, took, perform}
use Rattle.history.specs.History.{next}

-- the link after these bytes, given one by one
abbrev pub feed : Rules → Link → List ℕ → Link
feed R l [] = l
feed R l (b ∷ bs) = feed R (byte_out R l b).link bs

-- the bytes that these bytes put out, given one by one, and those that they hand up
abbrev pub fed_line : Rules → Link → List ℕ → List ℕ
fed_line R l [] = []
fed_line R l (b ∷ bs) = (byte_out R l b).line ++ fed_line R (byte_out R l b).link bs

abbrev pub fed_up : Rules → Link → List ℕ → List ℕ
fed_up R l [] = []
fed_up R l (b ∷ bs) = (byte_out R l b).up ++ fed_up R (byte_out R l b).link bs

-- the bytes that an accepted call takes: a run takes as many as it says
abbrev pub taken_by : Rules → Link → What → List ℕ
taken_by R l (byte b) = b ∷ []
taken_by R l (bytes bs) = take (run_out R l bs).taken bs
taken_by R l tick = []
taken_by R l (send kind command ps) = []
taken_by R l (session command ps) = []
taken_by R l restart = []

abbrev pub if_taken : Done → List ℕ → List ℕ
if_taken (refused k) bs = []
if_taken (took o) bs = bs

abbrev pub received : Rules → Link → List Call → List ℕ
received R l [] = []
received R l (c ∷ h) = if_taken (perform R l c) (taken_by R l c.what) ++ received R (next l (perform R l c)) h
