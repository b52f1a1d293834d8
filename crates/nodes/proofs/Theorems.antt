-- What holds of node lists and of the promises of this crate, over all inputs (documents 01, sections 3, 8, 10 and 12; 02, P5).
--     read_nodes_determined, write_nodes_determined       each promise fixes its answer and every lent byte
--     nodes_exactly, nodes_rising, nodes_none, nodes_most, nodes_written, nodes_room    what is listed, and where
--     nodes_told_lem, write_nodes_told    section 3's numbers
--     nodes_example          the worked example
--     node_mask_taken        which masks are written; node_mask_other, node_mask_of_29, no_node_mask: the edges
--     nodes_alike            with room the writer refuses what the reader refuses, and by the same refusal
--     nodes_back             what was written reads back as the same values; nodes_listed: by the reader's promise
-- Assumes nothing.
use mathlib.Core.Path.{◌≡◌, refl, sym, ap, ap₂, ◌∙◌}
use mathlib.Core.Bool.{Bool, true, false}
use mathlib.Core.List.{List, [], ◌∷◌, ◌++◌, Memᴰ}
use mathlib.Core.Logic.{◌↔◌, ◌⊎◌, inl, inr, ⊎_elim}
use Prim.Native.Nat.{ℕ, ◌+◌, ◌≤◌, ◌<◌}
use native.Mathlib.Omega.{arith}
use lib.ListN.{length, get_or, take, drop, replicate}
use lib.Seq.{take-append_seam, drop-append_seam, get_or_at, get_or-append-add}
use lib.Dec.{ltb, eqb}
use borrow.Author.Tests.{lt-ltb, le-ltb, eq-eqb, ne_eqb, eqb-true}
use Rattle.std.specs.Prelude.{Result, Ok, Err}
use Rattle.refusals.specs.Pick.{pick}
use Rattle.refusals.specs.declared.Refusal.{Refusal}
use Rattle.refusals.specs.declared.Refusal.TheVariants as refusal
use Rattle.refusals.proofs.Picks.{through, refused_by}
use Rattle.refusals.proofs.Theorems.{fixed}
use Rattle.frame.specs.Bytes.{over}
use Rattle.masks.specs.Written.{written_told}
use Rattle.masks.specs.Mask.{bit_of, marked, Rising}
use Rattle.nodes.specs.Nodes.{is_node_list, node_mask, nodes_of, node_answer, nodes_told, node_list_of, list_left, ReadNodes}
use Rattle.nodes.specs.Writer.{node_body, WriteNodes}
use Rattle.nodes.specs.declared.Controller.{Controller}
use Rattle.nodes.specs.declared.NodeList.{NodeList}
use Rattle.nodes.proofs.Layouts.{node_list_yes}
use Rattle.nodes.proofs.Writing.{body_length, odd_refused}
use Rattle.masks.proofs.Theorems.{write_determined, write_told, write_taken, write_refused, refuses_alike, written_stands}
use Rattle.masks.proofs.Marked.{marks_one, member_to, member_from, marked_rising, marked_none}
use Rattle.masks.proofs.Masks.{marked_le}

-- ---- Section 12: each promise determines its answer and every lent byte after the call, refusals too

pub read_nodes_determined : {body lent : List ℕ} {r q : Result NodeList Refusal} {l m : List ℕ} → ReadNodes body lent r l → ReadNodes body lent q m → (r ≡ q) × (l ≡ m)
read_nodes_determined a b = (fixed a.answer b.answer, fixed a.left b.left)

pub write_nodes_determined : {body lent : List ℕ} {r q : Result ℕ Refusal} {l m : List ℕ} → WriteNodes body lent r l → WriteNodes body lent q m → (r ≡ q) × (l ≡ m)
write_nodes_determined = write_determined

-- ---- node list

-- the list is exactly the marked nodes
pub nodes_exactly : (body : List ℕ) (k : ℕ) → Memᴰ k (nodes_of body) ↔ ((1 ≤ k) × (k ≤ 232) × (bit_of (node_mask body) k ≡ 1))
nodes_exactly body k = (
  λ m.
      let h = member_to (node_mask body) 232 k m in
      let one = (marks_one (node_mask body) k).0 h.1 in
      (one.0, h.0, one.1),
  λ h. member_from (node_mask body) 232 k h.0 h.1 ((marks_one (node_mask body) k).1 (h.0, h.2)),
)

-- rising, each once
pub nodes_rising : (body : List ℕ) → Rising (nodes_of body)
nodes_rising body = marked_rising (node_mask body) 232

-- no mask, no nodes
pub nodes_none : (body : List ℕ) → get_or body 4 0 ≡ 0 → nodes_of body ≡ []
nodes_none body e = ap (λ (n : ℕ). marked (take n (drop 5 body)) 232) e ∙ marked_none 232

-- at most 232 of them: the list has room
pub nodes_most : (body : List ℕ) → length (nodes_of body) ≤ 232
nodes_most body = marked_le (node_mask body) 232

-- the nodes stand in the first bytes of the list, and the bytes beyond stay
pub nodes_written : (body lent : List ℕ) {r : Result NodeList Refusal} {lent' : List ℕ} → ReadNodes body lent r lent' → 232 ≤ length lent → is_node_list body ≡ true
    → (take (length (nodes_of body)) lent' ≡ nodes_of body) × (drop (length (nodes_of body)) lent' ≡ drop (length (nodes_of body)) lent)
nodes_written body lent l room e =
    let n = length (nodes_of body) in
    let left = l.left ∙ ap (λ (a : Result NodeList Refusal). list_left a (nodes_of body) lent) (node_list_yes body (length lent) room e) in
    (ap (take n) left ∙ take-append_seam (nodes_of body) (drop n lent), ap (drop n) left ∙ drop-append_seam (nodes_of body) (drop n lent))

-- ROOM before FORM, whatever the body; a refusal leaves all
pub nodes_room : (body lent : List ℕ) {r : Result NodeList Refusal} {lent' : List ℕ} → ReadNodes body lent r lent' → length lent < 232 → (r ≡ Err refusal.Room) × (lent' ≡ lent)
nodes_room body lent l short =
    let e : node_list_of body (length lent) ≡ Err refusal.Room = rw (lt-ltb (length lent) 232 short) in
    (l.answer ∙ e, l.left ∙ ap (λ (a : Result NodeList Refusal). list_left a (nodes_of body) lent) e)

-- ---- Section 3: the number of each refusal alone, and 0 with the values of each answer

pub nodes_told_lem : (body : List ℕ) (room : ℕ)
    → nodes_told (node_list_of body room) ≡ pick (ltb room 232) (1 ∷ []) (pick (is_node_list body) (nodes_told (Ok (node_answer body))) (10 ∷ []))
nodes_told_lem body room =
    through nodes_told (ltb room 232) (Err refusal.Room) (pick (is_node_list body) (Ok (node_answer body)) (Err refusal.Form))
    ∙ ap (λ (x : List ℕ). pick (ltb room 232) (1 ∷ []) x) (through nodes_told (is_node_list body) (Ok (node_answer body)) (Err refusal.Form))

pub write_nodes_told : {body lent : List ℕ} {r : Result ℕ Refusal} {lent' : List ℕ} → WriteNodes body lent r lent'
    → written_told r ≡ pick (ltb (length lent) 254) (1 ∷ []) (pick (is_node_list body) (0 ∷ length body ∷ []) (10 ∷ []))
write_nodes_told = write_told

-- ---- Section 10

-- first mask byte 05: nodes 1 and 3
pub nodes_example : nodes_of (1 ∷ 2 ∷ 5 ∷ 8 ∷ 29 ∷ 5 ∷ (replicate 28 0 ++ (5 ∷ 0 ∷ []))) ≡ 1 ∷ 3 ∷ []
unfolding marked
nodes_example = refl

-- ---- Document 02, P5: what is written

module _ (controller : Controller) (mask : List ℕ) where
  abbrev whole : List ℕ
  whole = node_body controller mask

  -- the body's own tests, but for those of its size and count byte, are met; the count byte is the number of mask bytes
  taken_by_lem : is_node_list whole ≡ pick (eqb (length whole) 36) (eqb (length mask) 29) (pick (eqb (length whole) 7) (eqb (length mask) 0) false)
  unfolding node_body
  taken_by_lem =
      let size = body_length controller mask in
      ap
      (λ (t : Bool). pick (pick t false true) (pick (eqb (length whole) 36) (eqb (length mask) 29) (pick (eqb (length whole) 7) (eqb (length mask) 0) false)) false)
      (le-ltb (length whole) 2 (omega arith))

  -- 29 mask bytes, or none
  pub node_mask_taken : (is_node_list whole ≡ true) ↔ ((length mask ≡ 29) ⊎ (length mask ≡ 0))
  node_mask_taken =
      let size = body_length controller mask in
      let full : length mask ≡ 29 → is_node_list whole ≡ true = λ e.
      taken_by_lem ∙ rw (eq-eqb (length whole) 36 (omega arith)) (eq-eqb (length mask) 29 e) in
      let empty : length mask ≡ 0 → is_node_list whole ≡ true = λ e.
      taken_by_lem ∙ rw (ne_eqb (length whole) 36 (λ z. omega arith), eq-eqb (length whole) 7 (omega arith)) (eq-eqb (length mask) 0 e) in
      (λ e. by (eqb (length whole) 36) (eqb (length whole) 7) (sym taken_by_lem ∙ e), ⊎_elim full empty)
    where
      by : (t u : Bool) → pick t (eqb (length mask) 29) (pick u (eqb (length mask) 0) false) ≡ true → (length mask ≡ 29) ⊎ (length mask ≡ 0)
      by true u e = inl (eqb-true (length mask) 29 e)
      by false true e = inr (eqb-true (length mask) 0 e)
      by false false e = let z : ◌≡◌ {A = ℕ} 0 1 = cc in absurd (omega arith)

  module _ {lent : List ℕ} {r : Result ℕ Refusal} {lent' : List ℕ} (w : WriteNodes whole lent r lent') (room : 254 ≤ length lent) where
    -- neither 29 nor 0 mask bytes: FORM
    pub node_mask_other : (length mask ≡ 29 → ⊥) → (length mask ≡ 0 → ⊥) → (r ≡ Err refusal.Form) × (lent' ≡ lent)
    node_mask_other full empty =
        let size = body_length controller mask in
        write_refused w room (odd_refused whole (λ e. full (omega arith)) (λ e. empty (omega arith)))

    -- 29 are written, and none too
    pub node_mask_of_29 : length mask ≡ 29 → (r ≡ Ok 36) × (lent' ≡ over whole lent)
    node_mask_of_29 e =
        let size = body_length controller mask in
        let stands = write_taken w room (node_mask_taken.1 (inl e)) in
        (stands.0 ∙ ap (λ (n : ℕ). Ok n) (omega arith), stands.1)

    pub no_node_mask : length mask ≡ 0 → (r ≡ Ok 7) × (lent' ≡ over whole lent)
    no_node_mask e =
        let size = body_length controller mask in
        let stands = write_taken w room (node_mask_taken.1 (inr e)) in
        (stands.0 ∙ ap (λ (n : ℕ). Ok n) (omega arith), stands.1)

-- with room for the list the reader refuses by FORM alone
reads_refused : (body : List ℕ) (room : ℕ) (k : Refusal) → 232 ≤ room
    → (node_list_of body room ≡ Err k) ↔ ((is_node_list body ≡ false) × (k ≡ refusal.Form))
reads_refused body room k h =
    let same : node_list_of body room ≡ pick (is_node_list body) (Ok (node_answer body)) (Err refusal.Form) = rw (le-ltb room 232 h) in
    let alone = refused_by (is_node_list body) (node_answer body) refusal.Form k in
    (λ e. alone.0 (sym same ∙ e), λ e. same ∙ alone.1 e)

-- with room the writer refuses what its reader refuses, and by the same refusal
pub nodes_alike : {body lent : List ℕ} {r : Result ℕ Refusal} {lent' : List ℕ} → WriteNodes body lent r lent' → 254 ≤ length lent
    → (list : ℕ) → 232 ≤ list → (k : Refusal) → (r ≡ Err k) ↔ (node_list_of body list ≡ Err k)
nodes_alike {body} w room list h k = (
  λ e. (reads_refused body list k h).1 ((refuses_alike w room k).0 e),
  λ e. (refuses_alike w room k).1 ((reads_refused body list k h).0 e),
)

-- what was written for these values, read back into a list with room for 232
pub record NodesBack (controller : Controller) (mask : List ℕ) (lent : List ℕ) (n : ℕ) (lent' : List ℕ) : Type 0 where
  pub size : n ≡ 7 + length mask
  pub most : n ≤ 36
  pub answer : (list : ℕ) → 232 ≤ list → node_list_of (take n lent') list ≡ Ok (record { controller = controller; count = length (marked mask 232) })
  pub nodes : nodes_of (take n lent') ≡ marked mask 232
  pub beyond : drop n lent' ≡ drop n lent

module _ (controller : Controller) (mask : List ℕ) where
  -- the mask stands behind the count byte, and the chip's two bytes behind the mask
  whole_mask : node_mask (node_body controller mask) ≡ mask
  unfolding node_body
  whole_mask = take-append_seam mask (controller.chip_type ∷ controller.chip_version ∷ [])

  whole_answer : node_answer (node_body controller mask)
      ≡ record { controller = controller; count = length (marked mask 232) }
  unfolding node_body
  whole_answer =
      let front : List ℕ = 1 ∷ 2 ∷ controller.version ∷ controller.capabilities ∷ length mask ∷ mask in
      let end : List ℕ = controller.chip_type ∷ controller.chip_version ∷ [] in
      let first : get_or (front ++ end) (length mask + 5) 0 ≡ controller.chip_type = get_or_at front controller.chip_type (controller.chip_version ∷ []) 0 (length mask + 5) (omega arith) in
      let around : ℕ → ℕ → NodeList = λ t u. record {
        controller = record { version = controller.version; capabilities = controller.capabilities; chip_type = t; chip_version = u };
        count = length (nodes_of (node_body controller mask));
      } in
      let last : length mask + 6 ≡ length front + 1 = omega arith in
      let second : get_or (front ++ end) (length mask + 6) 0 ≡ controller.chip_version = ap (λ (k : ℕ). get_or (front ++ end) k 0) last ∙ get_or-append-add front end 1 0 in
      ap₂ (λ (t u : ℕ). around t u) first second
      ∙ ap (λ (m : List ℕ). record { controller = controller; count = length (marked m 232) }) whole_mask

pub nodes_back : (controller : Controller) (mask : List ℕ) (lent : List ℕ) (n : ℕ) (lent' : List ℕ)
    → WriteNodes (node_body controller mask) lent (Ok n) lent'
    → NodesBack controller mask lent n lent'
nodes_back controller mask lent n lent' w =
    let body = node_body controller mask in
    let stands = written_stands w in
    let counts = (node_mask_taken controller mask).0 stands.taken in
    let size = body_length controller mask in
    record {
      size = stands.size ∙ size;
      most = ⊎_elim (λ e. omega (arith, stands.size, size)) (λ e. omega (arith, stands.size, size)) counts;
      answer = λ list h.
          ap (λ (b : List ℕ). node_list_of b list) stands.front
          ∙ node_list_yes body list h stands.taken
          ∙ ap Ok (whole_answer controller mask);
      nodes = ap nodes_of stands.front ∙ ap (λ (m : List ℕ). marked m 232) (whole_mask controller mask);
      beyond = stands.beyond;
    }

-- so `read_nodes` answers those values, and the nodes stand in its list
pub nodes_listed : (controller : Controller) (mask : List ℕ) (lent : List ℕ) (n : ℕ) (lent' : List ℕ)
    → WriteNodes (node_body controller mask) lent (Ok n) lent'
    → (list : List ℕ) (r : Result NodeList Refusal) (list' : List ℕ) → 232 ≤ length list → ReadNodes (take n lent') list r list'
    → (r ≡ Ok (record { controller = controller; count = length (marked mask 232) })) × (list' ≡ over (marked mask 232) list)
nodes_listed controller mask lent n lent' w list r list' room l =
    let back = nodes_back controller mask lent n lent' w in
    let e = back.answer (length list) room in
    (l.answer ∙ e, l.left ∙ ap₂ (λ (a : Result NodeList Refusal) (ns : List ℕ). list_left a ns list) e back.nodes)
