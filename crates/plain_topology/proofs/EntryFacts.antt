-- Look-ups of errors, and the points in their cells.
use Rattle.std.specs.List.{HoldsAt, AllWithin}
use Rattle.std.proofs.lemmas.Bool.{false≢true}
use Rattle.std.proofs.lemmas.List.Elements.{recursion_from_All, All-map, All-from_all_within}
use Rattle.plane_terms.specs.Lists.{Every}
use Rattle.std.proofs.Common.{zero, suc, arith, MatchBool, length, ◌<◌, ◌≡◌, ◌↔◌, IsTrue, ℕ, Bool, List, [], ◌∷◌, Option, Some, None, true, false, refl, sym, subst}
use Rattle.std.specs.Prelude.{cond, ◌==◌, ◌&&◌}
use Rattle.std.specs.List.{find}
use Rattle.std.specs.Option.{option_map}
use Rattle.plane_terms.specs.Point.{Place, Point, IsAt}
use Rattle.plane_terms.specs.Cell.{InCells}
use Rattle.topology_terms.specs.Entry.{Entry, entry_at, HasCellsAt}
use Rattle.rule_laws.proofs.Places.{place_one}
use Rattle.plain_topology.specs.Plain.{entry_of, entries_of}
use Rattle.plain_topology.specs.declared.entries.PlainEntry.{PlainEntry}
use Rattle.plain_topology.proofs.PlaceFacts.{cells_points}

found : (b : Bool) (x : PlainEntry) (o : Option Entry) (r : Option PlainEntry) → o ≡ option_map entry_of r
    → cond b (Some (entry_of x)) o ≡ option_map entry_of (cond b (Some x) r)
found true x o r e = refl
found false x o r e = e

-- the first of a key
pub entry_at-entries : (es : List PlainEntry) (a b : ℕ)
    → entry_at (entries_of es) 1 a b ≡ option_map entry_of (find (λ (e : PlainEntry). (e.subject == a) && (e.other == b)) es)
unfolding entry_at
entry_at-entries [] a b = refl
entry_at-entries (x ∷ es) a b =
    found ((x.subject == a) && (x.other == b)) x (entry_at (entries_of es) 1 a b)
    (find (λ (e : PlainEntry). (e.subject == a) && (e.other == b)) es) (entry_at-entries es a b)

-- a point is in the cell of an error exactly if it is at its place
pub in_cells : (E : List Entry) (a b : ℕ) (p : Point) (q : Place) (e : PlainEntry) (r : Bool) → Some (entry_of e) ≡ entry_at E 1 a b
    → IsAt q p → (IsTrue r ↔ (e.place ≡ q)) → IsTrue r ↔ HasCellsAt E 1 a b p
in_cells E a b p q e r l i t = (
  (λ h.
      let P : Place → Type 0 = λ z. IsAt z p in
      (entry_of e, sym l, (cells_points e.place p).1 (subst P (sym (t.0 h)) i))),
  (λ w.
      let m = w.1 in
      let same : w.0 ≡ entry_of e = cc in
      let P : Entry → Type 0 = λ z. InCells z.cells p in
      t.1 (place_one e.place q p ((cells_points e.place p).0 (subst P same w.2)) i)),
)

-- and in none where there is no error
pub no_cells : (E : List Entry) (a b : ℕ) (p : Point) → entry_at E 1 a b ≡ None → ¬ (HasCellsAt E 1 a b p)
no_cells E a b p e w = let m = w.1 in cc

every_at : (P : Entry → Type 0) (es : List PlainEntry) (k : ℕ) → k < length es → HoldsAt (λ (e : PlainEntry). ¬ (P (entry_of e))) es k
    → ¬ (Every P (entries_of es))
every_at P [] k l h s = absurd (omega arith)
every_at P (e ∷ es) zero l h s = h e s.0
every_at P (e ∷ es) (suc k) l h s = every_at P es k (omega arith) h s.1

-- what `all` answered, over the errors
pub every_entry : (P : Entry → Type 0) (r : Bool) (es : List PlainEntry)
    → MatchBool r (AllWithin (λ (e : PlainEntry). P (entry_of e)) es 0 (length es))
    ((k : ℕ) × (k < length es) × HoldsAt (λ (e : PlainEntry). ¬ (P (entry_of e))) es k)
    → IsTrue r ↔ Every P (entries_of es)
every_entry P true es h =
    ((λ _. recursion_from_All P (entries_of es) (All-map P entry_of es (All-from_all_within (λ e. P (entry_of e)) es h))), (λ _. refl))
every_entry P false es h = ((λ t. absurd (false≢true t)), (λ s. absurd (every_at P es h.0 h.1 h.2 s)))
