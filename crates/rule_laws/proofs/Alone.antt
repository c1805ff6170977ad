-- Rules without a partner: the subject is judged among the features of one side.
--
-- AloneRule        what has to be shown of such a rule: where it is broken (Q) and its cells, for any list of features
--                  held: in the subject's envelope; local: by those round the point alone; exact: the cells hold exactly the points;
--                  some: none of them is empty
use Rattle.std.proofs.Common.{◌≡◌, ◌≢◌, ◌↔◌, inl, inr, ℕ, true, false, refl, sym, ◌∙◌, List, [], ◌∷◌, Some, None}
use Rattle.std.specs.Prelude.{◌==◌}
use Rattle.plane_terms.specs.Lists.{Every}
use Rattle.plane_terms.specs.Point.{Point}
use Rattle.plane_terms.specs.Rectangle.{RectHolds}
use Rattle.plane_terms.specs.Cell.{Cell, InCells, HavePoints}
use Rattle.plane_terms.specs.declared.kind.Kind.{Kind}
use Rattle.topology_terms.specs.Feature.{Feature, Side, feature_at, env, Agree}
use Rattle.topology_terms.specs.Broken.{Row, judged}
use Rattle.topology_terms.specs.Meaning.{Finding, finding_at}
use Rattle.topology_terms.specs.Plans.{near, finding_of, Around, Later, side_by, around}
use Rattle.topology_terms.specs.Together.{of_side}
use Rattle.sound_laws.proofs.Dirts.{bool_cases}
use Rattle.sound_laws.proofs.FeatureLists.{handle_of, same_handle}
use Rattle.sound_laws.proofs.FeatureLists.{each_live}
use Rattle.rule_laws.proofs.Nears.{near_ascends, near_of}
use Rattle.rule_laws.proofs.Families.{IsFit, AreFit, AreExact, AloneBreaks}
use Rattle.rule_laws.proofs.Lists.{side_each}
use Rattle.rule_laws.proofs.Around.{round, round_agree, round_near, around_near}

-- only the subject has its handle
abbrev pub IsOnlyOne : Feature → List Feature → Type 0
IsOnlyOne f gs = Every (λ (g : Feature). g.handle ≡ f.handle → g ≡ f) gs

pub record AloneRule (k l : Kind) (Q : Feature → List Feature → Point → Type 0) (cells : Feature → List Feature → List Cell) : Type 0 where
  pub held : (f : Feature) (gs : List Feature) (p : Point) → IsFit k f → Q f gs p → RectHolds (env f) p
  pub local : (f : Feature) (gs hs : List Feature) (p : Point) → IsFit k f → Every (IsFit l) gs → Every (IsFit l) hs → RectHolds (env f) p
      → round p gs ≡ round p hs → Q f gs p → Q f hs p
  pub exact : (f : Feature) (gs : List Feature) (p : Point) → IsFit k f → Every (IsFit l) gs → IsOnlyOne f gs
      → InCells (cells f gs) p ↔ Q f gs p
  pub some : (f : Feature) (gs : List Feature) → IsFit k f → Every (IsFit l) gs → HavePoints (cells f gs)

-- ---- one finding
alone_finding : List Cell → Finding
alone_finding cs = record { other = 0; whole = false; cells = cs }

none_or_one : (cs : List Cell) (b : ℕ) (x : Finding) → finding_at (finding_of 0 cs) b ≡ Some x
    → (b ≡ 0) × (x ≡ alone_finding cs) × (cs ≢ [])
unfolding finding_at alone_finding
none_or_one [] b x e = cc
none_or_one (c ∷ cs) b x e = elim (bool_cases (0 == b)) [
  | inl t ↦ let k : Some (alone_finding (c ∷ cs)) ≡ Some x =
      rw t at e in (sym (same_handle 0 b t), (let m : alone_finding (c ∷ cs) ≡ x = cc in sym m), λ n. cc)
  | inr t ↦ let k : None ≡ Some x = rw t at e in absurd cc
]

one_there : (cs : List Cell) → cs ≢ [] → finding_at (finding_of 0 cs) 0 ≡ Some (alone_finding cs)
unfolding finding_at alone_finding
one_there [] n = absurd (n refl)
one_there (c ∷ cs) n = refl

pub not_empty : (cs : List Cell) (p : Point) → InCells cs p → cs ≢ []
not_empty cs p h e = rw e at h

finding_exact : (B : ℕ → Point → Type 0) (W : Type 0) (cs : List Cell) → ¬ W → ((p : Point) → InCells cs p ↔ B 0 p)
    → ((b : ℕ) (p : Point) → B b p → b ≡ 0) → HavePoints cs → AreExact B W (finding_of 0 cs)
unfolding alone_finding
finding_exact B W cs whole exact alone some = record {
  points = λ b x e w p. let y = none_or_one cs b x e in rw (y.0, y.1) (exact p);
  some = λ b x e w. let y = none_or_one cs b x e in rw y.1 y.2;
  have_points = λ b x e. let y = none_or_one cs b x e in rw y.1 some;
  wholes = λ b x e w. let y = none_or_one cs b x e in let n : false ≡ true = rw y.1 at w in absurd cc;
  each_point = λ b p h.
      let n = alone b p h in
      let i = (exact p).1 (rw n at h) in
      (alone_finding cs, rw n (one_there cs (not_empty cs p i)), i);
  each_whole = λ h. absurd (whole h);
}

module _ (k l : Kind) (Q : Feature → List Feature → Point → Type 0) (cells : Feature → List Feature → List Cell)
    (R : AloneRule k l Q cells) (row : Row) (who : Around) where
  -- a broken point lies in the subject's envelope
  pub alone_inside : (F : List Feature) (a b : ℕ) (p : Point) → AreFit k l row who F → AloneBreaks Q row who F a b p
      → (f : Feature) × (feature_at F a ≡ Some f) × RectHolds (env f) p
  alone_inside F a b p u h = (h.f, h.live, R.held h.f (of_side (side_by who row h.f) F) p (u.subject a h.f h.live h.judged) h.there)

  fit_around : (F : List Feature) (f : Feature) → AreFit k l row who F → judged row f ≡ true
      → Every (IsFit l) (of_side (side_by who row f) F)
  fit_around F f u j = side_each (IsFit l) (side_by who row f) F u.ascending (u.around f j)

  -- and depends on the features round it
  pub alone_point : (F G : List Feature) (a b : ℕ) (p : Point) → AreFit k l row who F → AreFit k l row who G
      → Agree (λ f. RectHolds (env f) p) F G → AloneBreaks Q row who F a b p → AloneBreaks Q row who G a b p
  alone_point F G a b p u v agree h =
      let f = h.f in
      let S = side_by who row f in
      let fit = u.subject a f h.live h.judged in
      let held = R.held f (of_side S F) p fit h.there in
      record {
        f = f;
        live = agree.forth a f h.live held;
        judged = h.judged;
        alone = h.alone;
        there = R.local f (of_side S F) (of_side S G) p fit (fit_around F f u h.judged) (fit_around G f v h.judged) held
            (round_agree S F G p u.ascending v.ascending agree) h.there;
      }

  -- what is cut says exactly that
  module _ (F : List Feature) (a : ℕ) (f : Feature) (u : AreFit k l row who F) (e : feature_at F a ≡ Some f) (j : judged row f ≡ true)
      (n : who ≡ Later → ⊥) where
    S : Side
    S = side_by who row f

    fit : IsFit k f
    fit = u.subject a f e j

    near_fit : Every (IsFit l) (near S f F)
    unfolding S
    near_fit = each_live (IsFit l) (near S f F) (near_ascends S f F u.ascending)
        (λ b g i. u.around f j b g (near_of S f F b g u.ascending i))

    near_only : IsOnlyOne f (near S f F)
    unfolding S
    near_only = each_live (λ (g : Feature). g.handle ≡ f.handle → g ≡ f) (near S f F) (near_ascends S f F u.ascending) (λ b g i q.
        let o = (near_of S f F b g u.ascending i).live in
        let m = handle_of F b g o in
        let w = handle_of F a f e in
        let same : b ≡ a = sym m ∙ (q ∙ w) in
        let l : feature_at F a ≡ Some g = rw same at o in
        cc)

    there : (p : Point) → InCells (cells f (near S f F)) p ↔ AloneBreaks Q row who F a 0 p
    unfolding S
    there p =
        let x = R.exact f (near S f F) p fit near_fit near_only in (
          (λ h.
              let q = x.0 h in
              let held = R.held f (near S f F) p fit q in
              record {
                f = f;
                live = e;
                judged = j;
                alone = refl;
                there = R.local f (near S f F) (of_side S F) p fit near_fit (fit_around F f u j) held (round_near S F f p held) q;
              }),
          (λ h.
              let l = h.live in
              let same : h.f ≡ f = cc in
              let q : Q f (of_side S F) p = rw same at h.there in
              let held = R.held f (of_side S F) p fit q in
              x.1 (R.local f (of_side S F) (near S f F) p fit (fit_around F f u j) near_fit held (sym (round_near S F f p held)) q)),
        )

    pub alone_exact : AreExact (λ b p. AloneBreaks Q row who F a b p) ⊥ (finding_of 0 (cells f (around who row F f)))
    unfolding S
    alone_exact = rw (around_near who row F f n)
        (finding_exact (λ b p. AloneBreaks Q row who F a b p) ⊥ (cells f (near S f F)) (λ h. h) there (λ b p h. h.alone)
        (R.some f (near S f F) fit near_fit))
