-- What a validation finds is of a live subject and of a live partner or none, and each of its cells has a half-plane.
use Rattle.std.proofs.Common.{◌≡◌, ◌≢◌, ◌<◌, ℕ, inl, inr, List, [], ◌∷◌, Some, sym, subst, ◌∙◌, arith, pos, ◌+ℤ◌}
use Rattle.std.proofs.lemmas.Int.{ints}
use Rattle.plane_terms.specs.Lists.{Every}
use Rattle.plane_terms.specs.Point.{Point}
use Rattle.plane_terms.specs.Rectangle.{Rectangle, RectHolds}
use Rattle.plane_terms.specs.Cell.{Cell, InCell, InCells}
use Rattle.plane_terms.proofs.Truths.{there_or_not}
use Rattle.topology_terms.specs.Feature.{Feature, feature_at}
use Rattle.topology_terms.specs.Broken.{Row}
use Rattle.topology_terms.specs.Meaning.{Meaning}
use Rattle.topology_terms.specs.Entry.{Entry, entry_at}
use Rattle.topology_terms.specs.Project.{Project, rule_at}
use Rattle.topology_terms.specs.Changes.{IsFresh, IsValidated}
use Rattle.sound_laws.proofs.Dirts.{bool_cases}
use Rattle.sound_laws.proofs.States.{some_point}
use Rattle.rule_core.specs.Kinds.{IsPartner, NamesPartners}
use Rattle.topo_core.specs.Topologies.{IsErrorOf, IsTopology}
use Rattle.topo_core.proofs.Exchanges.{live_given}

-- no cell is the whole plane where a rectangle holds them all
beyond : Rectangle → Point
beyond r = record { x = r.x1 +ℤ pos 1; y = pos 0; w = 1; positive = omega arith }

not_held : (r : Rectangle) → RectHolds r (beyond r) → ⊥
unfolding beyond
not_held r h = let right = h.right in omega (arith, ints, right)

bounded_some : (r : Rectangle) (cs : List Cell) → ((p : Point) → InCells cs p → RectHolds r p) → Every (λ (c : Cell). c ≢ []) cs
bounded_some r [] h = tt
bounded_some r (c ∷ cs) h = (
  λ e. not_held r (h (beyond r) (inl (subst (λ (d : Cell). InCell d (beyond r)) (sym e) tt))),
  bounded_some r cs (λ p k. h p (inr k)),
)

partner_given : (p : Project) → IsTopology p → (b : ℕ) → IsPartner p.features b → b < p.next
partner_given p t b (inl none) = let one = t.store.from_1 in omega (arith, none, one)
partner_given p t b (inr g) = (live_given p t b g.0 g.1).1

fresh_error : (M : Meaning) → NamesPartners M → (p : Project) → IsTopology p → (row : Row) (f : Feature) (a b : ℕ) (e : Entry)
    → feature_at p.features a ≡ Some f → IsFresh M p.features row f a b e → IsErrorOf p.next a b e
fresh_error M N p t row f a b e live x =
    let given = live_given p t a f live in
    record {
      from_1 = given.0;
      given = given.1;
      partner = elim (bool_cases e.whole) [
        | inl whole ↦ partner_given p t b (inl (x.broken_whole whole).0)
        | inr cells ↦
            let y = some_point e.cells (x.some cells) x.have_points in
            partner_given p t b (N.partner row p.features a b y.0 ((x.points cells y.0).0 y.1))
      ];
      cells = x.some;
      some = elim (bool_cases e.whole) [
        | inl whole ↦ rw (x.bare whole) tt
        | inr cells ↦ bounded_some e.frame e.cells (x.frame cells).holds
      ];
    }

pub validated_errors : (M : Meaning) → NamesPartners M → (w : Rectangle) (old new : Project) → IsTopology old → IsValidated M w old new
    → (r a b : ℕ) (e : Entry) → entry_at new.entries r a b ≡ Some e → IsErrorOf old.next a b e
validated_errors M N w old new t i r a b e k = elim (i.each a) [
  | inr y ↦ t.errors r a b e (sym (y.1 r b) ∙ k)
  | inl y ↦ elim (there_or_not (rule_at old.rules r)) [
    | inr n ↦ let l = y.1.idle r n b in absurd cc
    | inl q ↦ elim (there_or_not (feature_at old.features a)) [
      | inr n ↦ let l = y.1.dead n r b in absurd cc
      | inl z ↦ fresh_error M N old t q.0 z.0 a b e z.1 ((y.1.live z.0 z.1 r q.0 q.1).fresh b e k)
    ]
  ]
]
