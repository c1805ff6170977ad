-- Rules from outside, which a caller hands in, and what they mean beside the rules that there are. Each judges whole features.
--
-- Outside              what such a rule is seen as: its word, the kind of its subjects, the test whether a subject breaks it among features,
--                      and the law that the test depends on the features alone whose envelope meets the subject's
-- first_named outs w   the first of them that has the word w
-- breaks_by o F a f    this one judges features of the kind of f, and a breaks it; where there is none, nothing breaks it
-- Test                 by a word, whether a live feature breaks a rule among features; f is the feature of the handle a
-- by_first outs        the test that rules from outside make: by the first that has the word
-- IsLocal B            the test depends on the features alone whose envelope meets the subject's
-- BreaksWhole B w row F a    a is live, the row judges it, and by the test B it breaks the rule of this word
-- IsWholeCutting B w row F a xs    a is live; xs is one finding of all of a if it breaks the rule of this word, and else nothing
-- fits_by, at_by, whole_by, cut_by o ..    the four notions at a row of which the word o is told; where none is told they are those of M
-- with_test pick B M   the meaning M with rules on whole features beside: a row of which pick tells a word is broken by no point, and by a
--                      whole feature as the test says; every other row means what it means in M
-- with_outside pick outs M     that of these rules from outside
--
-- Waits for: the contract of a run with rules from outside. Until a kind of rule names a word, `pick` stands for the word that a row tells.
use Rattle.std.specs.Prelude.{◌≡◌, ℕ, Bool, true, false, ◌&&◌, List, [], Option, None, Some, find, bytes_eq, if◌then◌else◌}
use Rattle.plane_terms.specs.Point.{Point}
use Rattle.plane_terms.specs.Rectangle.{RectsMeet}
use Rattle.plane_terms.specs.declared.kind.Kind.{Kind}
use Rattle.topology_terms.specs.Causes.{same_kind}
use Rattle.topology_terms.specs.Feature.{Feature, feature_at, env, Agree, IsAscending}
use Rattle.topology_terms.specs.Broken.{Row, judged}
use Rattle.topology_terms.specs.Meaning.{Meaning, Finding}
use Rattle.topology_terms.specs.Plans.{whole_finding}

pub record Outside : Type 0 where
  pub word : List ℕ
  pub kind : Kind
  pub breaks : List Feature → ℕ → Bool
  pub local : (F G : List Feature) (a : ℕ) (f : Feature) → IsAscending F → IsAscending G → feature_at F a ≡ Some f → feature_at G a ≡ Some f
      → Agree (λ (g : Feature). RectsMeet (env f) (env g)) F G → breaks F a ≡ breaks G a

abbrev pub first_named : List Outside → List ℕ → Option Outside
first_named outs w = find (λ (o : Outside). bytes_eq o.word w) outs

abbrev pub breaks_by : Option Outside → List Feature → ℕ → Feature → Bool
breaks_by None F a f = false
breaks_by (Some o) F a f = same_kind f.shape.kind o.kind && o.breaks F a

abbrev pub Test : Type 0
Test = List ℕ → List Feature → ℕ → Feature → Bool

abbrev pub by_first : List Outside → Test
by_first outs w F a f = breaks_by (first_named outs w) F a f

abbrev pub IsLocal : Test → Type 0
IsLocal B = (w : List ℕ) (F G : List Feature) (a : ℕ) (f : Feature) → IsAscending F → IsAscending G → feature_at F a ≡ Some f
    → feature_at G a ≡ Some f → Agree (λ (g : Feature). RectsMeet (env f) (env g)) F G → B w F a f ≡ B w G a f

pub record BreaksWhole (B : Test) (w : List ℕ) (row : Row) (F : List Feature) (a : ℕ) : Type 0 where
  pub f : Feature
  pub live : feature_at F a ≡ Some f
  pub judged : judged row f ≡ true
  pub breaks : B w F a f ≡ true

abbrev pub whole_cutting : Test → List ℕ → Row → List Feature → ℕ → Feature → List Finding
whole_cutting B w row F a f = if judged row f && B w F a f then whole_finding else []

abbrev pub IsWholeCutting : Test → List ℕ → Row → List Feature → ℕ → List Finding → Type 0
IsWholeCutting B w row F a xs = (f : Feature) × (feature_at F a ≡ Some f) × (xs ≡ whole_cutting B w row F a f)

-- ---- of a row, by the word that is told of it
abbrev pub fits_by : Option (List ℕ) → Meaning → Row → List Feature → Type 0
fits_by None M row F = M.Fits row F
fits_by (Some w) M row F = IsAscending F

abbrev pub at_by : Option (List ℕ) → Meaning → Row → List Feature → ℕ → ℕ → Point → Type 0
at_by None M row F a b p = M.BrokenAt row F a b p
at_by (Some w) M row F a b p = ⊥

abbrev pub whole_by : Option (List ℕ) → Test → Meaning → Row → List Feature → ℕ → Type 0
whole_by None B M row F a = M.BrokenWhole row F a
whole_by (Some w) B M row F a = BreaksWhole B w row F a

abbrev pub cut_by : Option (List ℕ) → Test → Meaning → Row → List Feature → ℕ → List Finding → Type 0
cut_by None B M row F a xs = M.IsCutting row F a xs
cut_by (Some w) B M row F a xs = IsWholeCutting B w row F a xs

abbrev pub with_test : (Row → Option (List ℕ)) → Test → Meaning → Meaning
with_test pick B M = record {
  Fits = λ row F. fits_by (pick row) M row F;
  BrokenAt = λ row F a b p. at_by (pick row) M row F a b p;
  BrokenWhole = λ row F a. whole_by (pick row) B M row F a;
  IsCutting = λ row F a xs. cut_by (pick row) B M row F a xs;
}

abbrev pub with_outside : (Row → Option (List ℕ)) → List Outside → Meaning → Meaning
with_outside pick outs M = with_test pick (by_first outs) M
