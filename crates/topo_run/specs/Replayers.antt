-- What a replayer is seen as, and what a piece of a script does to it.
--
-- rest_limit             so many bytes of a line that has not ended yet are held at most: two more than a line may have, so that a line
--                        that is cut there is too long, whatever follows, also where it ends in a CR
-- HasNoLf text           no byte of the text is LF
-- tail_of text           what follows the last LF of a text, or all of it; tail_from: the same, where so much was read before
-- Holds tail rest        of a line that has not ended yet these bytes are held: all of its tail, or the first up to the limit
-- Replaying              the state, the rest that is held, and whether some line so far was refused
-- IsNew r                it holds nothing, and no line was refused
-- EndsLine old line before now new     it answered this line: the text `before` grew by its reply; nothing of a line is held then
-- Answers old lines left before now new     a replayer answered these lines: the whole text of a run from its state over them was written;
--                        its state is the one at the end, it holds what is left, and the flag says whether a line was refused
-- AnswersAll old new s k end     a replayer answered all lines of a source s whose reading ended so; the flag says whether one was refused
-- BreaksIn start lines before now     a prefix of this text was written, which ends in the reply to a line, before that reply's end
use Rattle.std.specs.Prelude.{ℕ, ◌≡◌, ◌≢◌, ◌==◌, ◌||◌, Bool, false, List, [], ◌∷◌, ◌++◌, take, Option, if◌then◌else◌}
use Rattle.plane_terms.specs.Lists.{Every}
use Rattle.text_terms.specs.Lines.{without_cr, lines_of}
use Rattle.outside_terms.specs.Reads.{Passage, Read, is_at_end}
use Rattle.outside_terms.specs.declared.end.End.{End}
use Rattle.script_terms.specs.State.{State}
use Rattle.script_terms.specs.Ends.{StopsInLast}
use Rattle.script_terms.specs.Run.{Step, WritesPrefix}
use Rattle.topo_run.specs.Told.{Keeps, WritesTo}

abbrev pub rest_limit : ℕ
rest_limit = 1048578

abbrev pub HasNoLf : List ℕ → Type 0
HasNoLf text = Every (λ b. b ≢ 10) text

abbrev pub tail_from : List ℕ → List ℕ → List ℕ
tail_from before [] = before
tail_from before (b ∷ bs) = if b == 10 then tail_from [] bs else tail_from (before ++ b ∷ []) bs

abbrev pub tail_of : List ℕ → List ℕ
tail_of text = tail_from [] text

pub record Holds (tail rest : List ℕ) : Type 0 where
  pub unended : HasNoLf tail
  pub cut : rest ≡ take rest_limit tail

pub record Replaying : Type 0 where
  pub state : State
  pub rest : List ℕ
  pub refused : Bool

abbrev pub IsNew : Replaying → Type 0
IsNew r = (r.rest ≡ []) × (r.refused ≡ false)

pub record EndsLine (old : Replaying) (line before now : List ℕ) (new : Replaying) : Type 0 where
  pub refused : Bool
  pub text : List ℕ
  pub grown : now ≡ before ++ text
  pub step : Step old.state (without_cr line) (record { text = text; after = new.state; refused = refused })
  pub keeps : Keeps old.state new.state
  pub none : new.rest ≡ []
  pub flag : new.refused ≡ (old.refused || refused)

pub record Answers (old : Replaying) (lines : List (List ℕ)) (left : List ℕ) (before now : Option (List ℕ)) (new : Replaying) : Type 0 where
  pub refused : Bool
  pub run : WritesTo old.state lines before now refused new.state
  pub holds : Holds left new.rest
  pub flag : new.refused ≡ (old.refused || refused)

pub record AnswersAll (old new : Replaying) (s k : Passage) (end : End) : Type 0 where
  pub kept : List ℕ
  pub refused : Bool
  pub read : Read s kept end
  pub run : WritesTo old.state (lines_of (is_at_end end) kept) k.old k.new refused new.state
  pub flag : new.refused ≡ (old.refused || refused)

pub record BreaksIn (start : State) (lines : List (List ℕ)) (before now : Option (List ℕ)) : Type 0 where
  pub prefix : WritesPrefix start lines before now
  pub stops : StopsInLast prefix.outcomes prefix.text
