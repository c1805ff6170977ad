-- Worked rows, from the definitions: nothing is sound, and a project has one answer at most.
use Rattle.std.proofs.Common.{◌≡◌, ◌⊎◌, inl, inr, ℕ, Option, Some, None, refl, ap, arith}
use Rattle.topology_terms.specs.Meaning.{Meaning}
use Rattle.topology_terms.specs.Project.{Project, rule_at, empty_project}
use Rattle.topology_terms.specs.Unsound.{IsEarlier, IsFirstUnsound}
use Rattle.project_check.specs.Checked.{IsChecked}
use Rattle.project_check.specs.declared.check.Unsound.{Unsound}

nothing_is_sound : (M : Meaning) → IsChecked M empty_project None
unfolding rule_at
nothing_is_sound M = record { each = λ r row e a. absurd cc }

earlier_or_same : (s b r a : ℕ) → IsEarlier s b r a ⊎ (IsEarlier r a s b ⊎ ((s ≡ r) × (b ≡ a)))
earlier_or_same s b r a = grind arith

not_earlier : (M : Meaning) (p : Project) (s b r a : ℕ) → IsFirstUnsound M p s b → IsFirstUnsound M p r a → ¬ (IsEarlier s b r a)
not_earlier M p s b r a u v l = u.unsound (v.before s u.row b u.in_force l)

same_pair : (r s a b : ℕ) → r ≡ s → a ≡ b → let u : Unsound = record { rule = r; subject = a } in
    let v : Unsound = record { rule = s; subject = b } in u ≡ v
same_pair r s a b e k = rw (e, k) refl

one_answer : (M : Meaning) (p : Project) (found other : Option Unsound) → IsChecked M p found → IsChecked M p other → found ≡ other
one_answer M p None None h k = refl
one_answer M p None (Some u) h k = absurd (k.unsound (h.each u.rule k.row k.in_force u.subject))
one_answer M p (Some u) None h k = absurd (h.unsound (k.each u.rule h.row h.in_force u.subject))
one_answer M p (Some u) (Some v) h k = elim (earlier_or_same u.rule u.subject v.rule v.subject) [
  | inl l ↦ absurd (not_earlier M p u.rule u.subject v.rule v.subject h k l)
  | inr o ↦ elim o [
    | inl l ↦ absurd (not_earlier M p v.rule v.subject u.rule u.subject k h l)
    | inr e ↦ ap (λ (w : Unsound). Some w) (same_pair u.rule v.rule u.subject v.subject e.0 e.1)
  ]
]
