-- A session after the swap of one of its steps: the last done one, or the first undone one.
use Rattle.std.proofs.Common.{ℕ, zero, suc, ◌-◌, ◌≡◌, ◌≢◌, List, [], ◌∷◌, ◌++◌, Option, refl, sym, ◌∙◌, ap, subst, arith, length, take, drop}
use Rattle.std.proofs.lemmas.List.{take-append-drop}
use Rattle.topology_terms.specs.Feature.{Feature}
use Rattle.session_terms.specs.Kept.{KeptStep}
use Rattle.edit_session.specs.Moves.{MayEach, IsUndoneOn, IsRedoneOn}
use Rattle.edit_session.specs.StepLists.{IsSwappedAt}

each_both : (may : ℕ → Option Feature → Type 0) (ts us : List KeptStep) → MayEach may ts → MayEach may us → MayEach may (ts ++ us)
each_both may [] us m l = l
each_both may (t ∷ ts) us m l = (m.0, each_both may ts us m.1 l)

-- each step may stand, done or undone
pub may_whole : (may : ℕ → Option Feature → Type 0) (d : ℕ) (ts : List KeptStep) → MayEach may (take d ts) → MayEach may (drop d ts)
    → MayEach may ts
may_whole may d ts m l = subst (MayEach may) (take-append-drop d ts) (each_both may (take d ts) (drop d ts) m l)

pub before_seam : (n : ℕ) (before : List KeptStep) (s : KeptStep) (after : List KeptStep) → length before ≡ n
    → take n (before ++ s ∷ after) ≡ before
before_seam zero [] s after e = refl
before_seam (suc n) [] s after e = absurd (omega (arith, e))
before_seam zero (b ∷ before) s after e = absurd (omega (arith, e))
before_seam (suc n) (b ∷ before) s after e = ap (λ xs. b ∷ xs) (before_seam n before s after (omega (arith, e)))

from_seam : (n : ℕ) (before : List KeptStep) (s : KeptStep) (after : List KeptStep) → length before ≡ n
    → drop n (before ++ s ∷ after) ≡ s ∷ after
from_seam zero [] s after e = refl
from_seam (suc n) [] s after e = absurd (omega (arith, e))
from_seam zero (b ∷ before) s after e = absurd (omega (arith, e))
from_seam (suc n) (b ∷ before) s after e = from_seam n before s after (omega (arith, e))

through_seam : (n : ℕ) (before : List KeptStep) (s : KeptStep) (after : List KeptStep) → length before ≡ n
    → take (suc n) (before ++ s ∷ after) ≡ before ++ s ∷ []
through_seam zero [] s after e = refl
through_seam (suc n) [] s after e = absurd (omega (arith, e))
through_seam zero (b ∷ before) s after e = absurd (omega (arith, e))
through_seam (suc n) (b ∷ before) s after e = ap (λ xs. b ∷ xs) (through_seam n before s after (omega (arith, e)))

after_seam : (n : ℕ) (before : List KeptStep) (s : KeptStep) (after : List KeptStep) → length before ≡ n
    → drop (suc n) (before ++ s ∷ after) ≡ after
after_seam zero [] s after e = refl
after_seam (suc n) [] s after e = absurd (omega (arith, e))
after_seam zero (b ∷ before) s after e = absurd (omega (arith, e))
after_seam (suc n) (b ∷ before) s after e = after_seam n before s after (omega (arith, e))

pub some_done : (d : ℕ) (ts : List KeptStep) → take d ts ≢ [] → d ≡ suc (d - 1)
some_done zero ts some = absurd (some refl)
some_done (suc d) ts some = omega arith

-- the step at the index n was the last done one, and is the first undone one
pub undone_by : {G : Type 0} (swapped : ℕ → Option Feature → Option Feature → G → G → Type 0) (name : List ℕ) (room more n d : ℕ)
    (ts us : List KeptStep) (g h : G) → d ≡ suc n → IsSwappedAt swapped n ts us g h
    → IsUndoneOn swapped (record { name = name; done = take d ts; undone = drop d ts; room = room })
    (record { name = name; done = take n us; undone = drop n us; room = more }) g h
undone_by swapped name room more n d ts us g h next k =
    let new : KeptStep = record { handle = k.step.handle; kept = k.stood } in
    record {
      step = k.step;
      undone = record {
        stood = k.stood;
        session = record {
          name = refl;
          done = rw (next, k.old, k.new) (through_seam n k.before k.step k.after k.index
              ∙ ap (λ xs. xs ++ k.step ∷ []) (sym (before_seam n k.before new k.after k.index)));
          undone = rw (next, k.old, k.new) (from_seam n k.before new k.after k.index
              ∙ ap (λ xs. new ∷ xs) (sym (after_seam n k.before k.step k.after k.index)));
        };
        swap = k.swap;
      };
    }

-- the step at the index n was the first undone one, and is the last done one
pub redone_by : {G : Type 0} (swapped : ℕ → Option Feature → Option Feature → G → G → Type 0) (name : List ℕ) (room more n d : ℕ)
    (ts us : List KeptStep) (g h : G) → d ≡ suc n → IsSwappedAt swapped n ts us g h
    → IsRedoneOn swapped (record { name = name; done = take n ts; undone = drop n ts; room = room })
    (record { name = name; done = take d us; undone = drop d us; room = more }) g h
redone_by swapped name room more n d ts us g h next k =
    let new : KeptStep = record { handle = k.step.handle; kept = k.stood } in
    record {
      step = k.step;
      redone = record {
        stood = k.stood;
        session = record {
          name = refl;
          done = rw (next, k.old, k.new) (through_seam n k.before new k.after k.index
              ∙ ap (λ xs. xs ++ new ∷ []) (sym (before_seam n k.before k.step k.after k.index)));
          undone = rw (next, k.old, k.new) (from_seam n k.before k.step k.after k.index
              ∙ ap (λ xs. k.step ∷ xs) (sym (after_seam n k.before new k.after k.index)));
        };
        swap = k.swap;
      };
    }
