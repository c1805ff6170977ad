-- Rules with a partner: a subject breaks them with each feature around it on its own.
--
-- PairRule         what has to be shown of such a rule: where it is broken (C) and its cells, for any two features
--                  held_a, held_b: in both envelopes; exact: the cells hold exactly the points; some: none of them is empty
use Rattle.std.proofs.Common.{◌≡◌, ◌↔◌, ℕ, true, false, List, Some}
use Rattle.plane_terms.specs.Point.{Point}
use Rattle.plane_terms.specs.Rectangle.{RectHolds, rects_meet}
use Rattle.plane_terms.specs.Cell.{Cell, InCells, HavePoints}
use Rattle.plane_terms.specs.declared.kind.Kind.{Kind}
use Rattle.topology_terms.specs.Feature.{Feature, IsOf, feature_at, env, Agree, IsAscending}
use Rattle.topology_terms.specs.Broken.{Row, judged}
use Rattle.topology_terms.specs.Meaning.{Finding, finding_at}
use Rattle.topology_terms.specs.Plans.{pair_findings, Around, Later, Own, Second, Other, side_by, around}
use Rattle.sound_laws.proofs.FeatureLists.{handle_of}
use Rattle.sound_laws.proofs.Meetings.{meets_test}
use Rattle.rule_laws.proofs.Alone.{not_empty}
use Rattle.rule_laws.proofs.Findings.{found_cells, IsFoundWith, pair_found, found_pair}
use Rattle.rule_laws.proofs.Nears.{near_ascends, near_of, near_has, near_after_ascends, near_after_of, near_after_has}
use Rattle.rule_laws.proofs.Families.{IsFit, AreFit, AreExact, PairBreaks, IsInOrder}

pub record PairRule (k l : Kind) (C : Feature → Feature → Point → Type 0) (cells : Feature → Feature → List Cell) : Type 0 where
  pub held_a : (f g : Feature) (p : Point) → IsFit k f → IsFit l g → C f g p → RectHolds (env f) p
  pub held_b : (f g : Feature) (p : Point) → IsFit k f → IsFit l g → C f g p → RectHolds (env g) p
  pub exact : (f g : Feature) (p : Point) → IsFit k f → IsFit l g → InCells (cells f g) p ↔ C f g p
  pub some : (f g : Feature) → IsFit k f → IsFit l g → HavePoints (cells f g)

-- ---- who is around
around_ascends : (who : Around) (row : Row) (F : List Feature) (f : Feature) → IsAscending F → IsAscending (around who row F f)
around_ascends Later row F f u = near_after_ascends row.origin f F u
around_ascends Own row F f u = near_ascends row.origin f F u
around_ascends Second row F f u = near_ascends row.dest f F u
around_ascends Other row F f u = near_ascends (side_by Other row f) f F u

around_of : (who : Around) (row : Row) (F : List Feature) (f : Feature) (b : ℕ) (g : Feature) → IsAscending F
    → feature_at (around who row F f) b ≡ Some g → IsOf F (side_by who row f) b g × IsInOrder who f.handle b
around_of Later row F f b g u e = near_after_of row.origin f F b g u e
around_of Own row F f b g u e = (near_of row.origin f F b g u e, tt)
around_of Second row F f b g u e = (near_of row.dest f F b g u e, tt)
around_of Other row F f b g u e = (near_of (side_by Other row f) f F b g u e, tt)

around_has : (who : Around) (row : Row) (F : List Feature) (f : Feature) (b : ℕ) (g : Feature) → IsOf F (side_by who row f) b g
    → rects_meet (env f) (env g) ≡ true → IsInOrder who f.handle b → feature_at (around who row F f) b ≡ Some g
around_has Later row F f b g i m o = near_after_has row.origin f F b g i m o
around_has Own row F f b g i m o = near_has row.origin f F b g i m
around_has Second row F f b g i m o = near_has row.dest f F b g i m
around_has Other row F f b g i m o = near_has (side_by Other row f) f F b g i m

module _ (k l : Kind) (C : Feature → Feature → Point → Type 0) (cells : Feature → Feature → List Cell) (R : PairRule k l C cells)
    (row : Row) (who : Around) where
  pub pair_inside : (F : List Feature) (a b : ℕ) (p : Point) → AreFit k l row who F → PairBreaks C row who F a b p
      → (f : Feature) × (feature_at F a ≡ Some f) × RectHolds (env f) p
  pair_inside F a b p u h =
      (h.f, h.live, R.held_a h.f h.g p (u.subject a h.f h.live h.judged) (u.around h.f h.judged b h.g h.partner) h.common)

  pub pair_point : (F G : List Feature) (a b : ℕ) (p : Point) → AreFit k l row who F → Agree (λ f. RectHolds (env f) p) F G
      → PairBreaks C row who F a b p → PairBreaks C row who G a b p
  pair_point F G a b p u agree h =
      let fit = u.subject a h.f h.live h.judged in
      let other = u.around h.f h.judged b h.g h.partner in
      record {
        f = h.f;
        g = h.g;
        live = agree.forth a h.f h.live (R.held_a h.f h.g p fit other h.common);
        judged = h.judged;
        partner = record { live = agree.forth b h.g h.partner.live (R.held_b h.f h.g p fit other h.common); on_side = h.partner.on_side };
        order = h.order;
        common = h.common;
      }

  module _ (F : List Feature) (a : ℕ) (f : Feature) (u : AreFit k l row who F) (e : feature_at F a ≡ Some f) (j : judged row f ≡ true) where
    gs : List Feature
    gs = around who row F f

    up : IsAscending gs
    unfolding gs
    up = around_ascends who row F f u.ascending

    with_partner : (b : ℕ) (g : Feature) (p : Point) → feature_at gs b ≡ Some g → InCells (cells f g) p ↔ PairBreaks C row who F a b p
    unfolding gs
    with_partner b g p i =
        let o = around_of who row F f b g u.ascending i in
        let x = R.exact f g p (u.subject a f e j) (u.around f j b g o.0) in
        let own = handle_of F a f e in (
          (λ h. record { f = f; g = g; live = e; judged = j; partner = o.0; order = rw own at o.1; common = x.0 h }),
          (λ h.
              let l = h.live in
              let same : h.f ≡ f = cc in
              let m = h.partner.live in
              let n = o.0.live in
              let also : h.g ≡ g = cc in
              x.1 (rw (same, also) at h.common)),
        )

    found : (b : ℕ) (x : Finding) → finding_at (pair_findings (cells f) gs) b ≡ Some x → IsFoundWith (cells f) gs b x
    found b x q = pair_found (cells f) gs up b x q

    partner_there : (b : ℕ) (p : Point) → PairBreaks C row who F a b p → (g : Feature) × (feature_at gs b ≡ Some g)
    unfolding gs
    partner_there b p h =
        let l = h.live in
        let same : h.f ≡ f = cc in
        let own = handle_of F a f e in
        let fit = u.subject a h.f h.live h.judged in
        let other = u.around h.f h.judged b h.g h.partner in
        let meet = meets_test (env h.f) (env h.g) (p, R.held_a h.f h.g p fit other h.common, R.held_b h.f h.g p fit other h.common) in
        (h.g, around_has who row F f b h.g (rw same at h.partner) (rw same at meet) (rw own h.order))

    pub pair_exact : AreExact (λ b p. PairBreaks C row who F a b p) ⊥ (pair_findings (cells f) (around who row F f))
    unfolding gs
    pair_exact = record {
      points = λ b x q w p. let y = found b x q in rw y.finding (with_partner b y.partner p y.there);
      some = λ b x q w. let y = found b x q in rw y.finding y.some;
      have_points = λ b x q.
          let y = found b x q in
          let o = around_of who row F f b y.partner u.ascending y.there in
          rw y.finding (R.some f y.partner (u.subject a f e j) (u.around f j b y.partner o.0));
      wholes = λ b x q w. let y = found b x q in let n : false ≡ true = rw y.finding at w in absurd cc;
      each_point = λ b p h.
          let g = partner_there b p h in
          let i = (with_partner b g.0 p g.1).1 h in
          (found_cells b (cells f g.0), found_pair (cells f) (around who row F f) b g.0 g.1 (not_empty (cells f g.0) p i), i);
      each_whole = λ h. absurd h;
    }
