-- How a replay ends: all lines were answered, and what completeness says of each status.
use Rattle.std.proofs.Common.{ℕ, ◌≡◌, ◌≤◌, ◌<◌, ◌⊎◌, Bool, true, false, ◌||◌, List, [], ◌++◌, Option, None, Some, length, take, inl, inr, refl, sym, ◌∙◌, ap, subst, arith, append-nil, length-append}
use Rattle.std.proofs.lemmas.List.{take-append-le, take_all}
use Rattle.std.specs.Io.KnownBytes.{Consumes, IsAtEnd}
use Rattle.text_terms.specs.Lines.{lines_of}
use Rattle.outside_terms.specs.Faults.{Rose}
use Rattle.outside_terms.specs.Reads.{Passage, Read, is_at_end, script_limit}
use Rattle.outside_terms.specs.Statuses.{code_of, status_of}
use Rattle.script_terms.specs.Ends.{Replays, ReplaysSome, EndsFrom, EndsAs, IsComplete}
use Rattle.script_terms.specs.Run.{WritesRun, WritesPrefix, text_of}
use Rattle.script_terms.specs.State.{State, empty_state}
use Rattle.script_terms.proofs.Starts.{empty_sound, empty_settled}
use Rattle.topo_run.specs.Replayers.{Replaying, IsNew, AnswersAll}
use Rattle.topo_run.specs.Told.{WritesTo, EndsAt}
use Rattle.topo_run.specs.Unopened.{IfUnopened}
use Rattle.outside_terms.specs.declared.end.End.{End}
use Rattle.outside_terms.specs.declared.end.End.TheVariants.{AtEnd, Failed, TooLong}
use Rattle.outside_terms.specs.declared.status.Status.{Status}
use Rattle.outside_terms.specs.declared.status.Status.TheVariants as status

pub all_answered : (start last : State) (s k : Passage) (kept : List ℕ) (end : End) (refused : Bool) → Read s kept end
    → WritesTo start (lines_of (is_at_end end) kept) k.old k.new refused last → EndsAt start last s k (status_of end refused)
all_answered start last s k kept AtEnd true read w = record { kept = kept; all = record { read = read; run = w.run }; last = w.last }
all_answered start last s k kept AtEnd false read w = record { kept = kept; all = record { read = read; run = w.run }; last = w.last }
all_answered start last s k kept Failed refused read w = (kept, refused, record { read = read; run = w.run })
all_answered start last s k kept TooLong refused read w = (kept, refused, record { read = read; run = w.run })

-- a replayer that was new did
pub answered_new : (old new : Replaying) (s k : Passage) (end : End) → IsNew old → AnswersAll old new s k end
    → EndsAt old.state new.state s k (status_of end new.refused)
answered_new old new s k end begins a =
    let flag : a.refused ≡ new.refused = sym (a.flag ∙ ap (λ (b : Bool). b || a.refused) begins.1) in
    subst (λ (b : Bool). EndsAt old.state new.state s k (status_of end b)) flag
    (all_answered old.state new.state s k a.kept end a.refused a.read a.run)

-- a replayer that was made of a state
pub made_new : (r : Replaying) (s : State) → r ≡ record { state = s; rest = []; refused = false } → IsNew r
made_new r s is = (ap (λ (x : Replaying). x.rest) is, ap (λ (x : Replaying). x.refused) is)

pub made_state : (r : Replaying) (s : State) → r ≡ record { state = s; rest = []; refused = false } → r.state ≡ s
made_state r s is = ap (λ (x : Replaying). x.state) is

-- the whole text of a run is a prefix of it
whole_prefix : (start : State) (lines : List (List ℕ)) (old new : Option (List ℕ)) (refused : Bool) → WritesRun start lines old new refused
    → WritesPrefix start lines old new
whole_prefix start lines old new refused w = record {
  first = lines;
  is_first = ([], sym (append-nil lines));
  outcomes = w.outcomes;
  run = w.run;
  text = text_of w.outcomes;
  is_prefix = ([], sym (append-nil (text_of w.outcomes)));
  written = w.written;
  sound = w.sound;
  invariant = w.invariant;
  keeping = w.keeping;
}

pub all_some : (start : State) (s k : Passage) (kept : List ℕ) (refused : Bool) → Replays start s k kept AtEnd refused
    → ReplaysSome start s k
all_some start s k kept refused r =
    let fits : length r.read.given ≤ script_limit = r.read.ended.1 in
    record {
      given = r.read.given;
      whole = true;
      taken = record { consumed = r.read.consumed; ended = λ test. (fits, r.read.ended.2) };
      run = subst (λ (t : List ℕ). WritesPrefix start (lines_of true t) k.old k.new)
          (r.read.ended.0 ∙ sym (take_all script_limit r.read.given fits))
          (whole_prefix start (lines_of true kept) k.old k.new refused r.run);
    }

-- ---- of a replay from a start

pub from_there : (start last : State) (s k : Passage) (t : Status) → EndsAt start last s k t → EndsFrom start s k t
from_there start last s k status.Done r = (r.kept, r.all)
from_there start last s k status.Refused r = (r.kept, r.all)
from_there start last s k status.Usage r = r
from_there start last s k status.ReadFault r = r
from_there start last s k status.WriteFault r = r
from_there start last s k status.NoMemory r = r
from_there start last s k status.WrongText r = r
from_there start last s k status.OpenFault r = r
from_there start last s k status.SaveFault r = r
from_there start last s k status.Unsound r = r
from_there start last s k status.TooLong r = r
from_there start last s k status.NoProject r = r

-- from the empty state
pub ends_empty : (start last : State) (s k : Passage) (t : Status) → start ≡ empty_state → EndsAt start last s k t → EndsAs s k t
ends_empty start last s k t is ends = record {
  sound = empty_sound;
  settled = empty_settled;
  ends = subst (λ (x : State). EndsFrom x s k t) is (from_there start last s k t ends);
}

-- a replay that began does not end as one does that opened nothing
pub began : (P : Type 0) (start : State) (s k : Passage) (t : Status) → EndsFrom start s k t → IfUnopened t P
began P start s k status.WrongText r = absurd r
began P start s k status.OpenFault r = absurd r
began P start s k status.NoProject r = absurd r
began P start s k status.Done r = tt
began P start s k status.Refused r = tt
began P start s k status.Usage r = tt
began P start s k status.ReadFault r = tt
began P start s k status.WriteFault r = tt
began P start s k status.NoMemory r = tt
began P start s k status.SaveFault r = tt
began P start s k status.Unsound r = tt
began P start s k status.TooLong r = tt

-- ---- where nothing fails

-- what was given of a told script, read to its end, is the script
whole_given : (script given : List ℕ) (new : Option (List ℕ)) → Consumes (Some script) new given → IsAtEnd new → given ≡ script
whole_given script given None consumed end = absurd consumed
whole_given script given (Some left) consumed end = sym (consumed ∙ (ap (λ t. given ++ t) end ∙ append-nil given))

consumes : (s : Passage) (script kept : List ℕ) (end : End) → s.old ≡ Some script → (read : Read s kept end)
    → Consumes (Some script) s.new read.given
consumes s script kept end told read = subst (λ (o : Option (List ℕ)). Consumes o s.new read.given) told read.consumed

pub kept_whole : (s : Passage) (script kept : List ℕ) → s.old ≡ Some script → Read s kept AtEnd → kept ≡ script
kept_whole s script kept told read = read.ended.0 ∙ whole_given script read.given s.new (consumes s script kept AtEnd told read) read.ended.2

-- no more is given than is there
given_within : (script given : List ℕ) (new : Option (List ℕ)) → Consumes (Some script) new given → length given ≤ length script
given_within script given None consumed = absurd consumed
given_within script given (Some left) consumed = omega (arith, ap (length {A = ℕ}) consumed, length-append given left)

pub not_too_long : (s : Passage) (script kept : List ℕ) → s.old ≡ Some script → length script ≤ script_limit → Read s kept TooLong → ⊥
not_too_long s script kept told short read =
    let within : length read.given ≤ length script = given_within script read.given s.new (consumes s script kept TooLong told read) in
    let over : script_limit < length read.given = read.ended.1 in
    absurd (omega (arith, within, over, short))

pub not_at_end : (s : Passage) (script kept : List ℕ) → s.old ≡ Some script → script_limit < length script → Read s kept AtEnd → ⊥
not_at_end s script kept told long read =
    let same : read.given ≡ script = whole_given script read.given s.new (consumes s script kept AtEnd told read) read.ended.2 in
    let within : length read.given ≤ script_limit = read.ended.1 in
    absurd (omega (arith, ap (length {A = ℕ}) same, within, long))

front_of : (script given : List ℕ) (new : Option (List ℕ)) → Consumes (Some script) new given → script_limit < length given
    → take script_limit given ≡ take script_limit script
front_of script given None consumed over = absurd consumed
front_of script given (Some left) consumed over =
    let fits : script_limit ≤ length given = omega (arith, over) in
    sym (ap (λ t. take script_limit t) consumed ∙ take-append-le script_limit given left fits)

pub kept_front : (s : Passage) (script kept : List ℕ) → s.old ≡ Some script → Read s kept TooLong → kept ≡ take script_limit script
kept_front s script kept told read =
    read.ended.0 ∙ front_of script read.given s.new (consumes s script kept TooLong told read) read.ended.1

-- a replay from a start
pub from_completes : (start : State) (s k : Passage) (t : Status) → EndsFrom start s k t → (script : List ℕ) → s.old ≡ Some script
    → length script ≤ script_limit → ¬ (Rose s.before s.now) → ¬ (Rose k.before k.now)
    → ((code_of t ≡ 0) × Replays start s k script AtEnd false)
    ⊎ (((code_of t ≡ 1) × Replays start s k script AtEnd true) ⊎ (code_of t ≡ 5))
from_completes start s k status.Done (kept, r) script told short calm quiet =
    inl (refl, subst (λ (x : List ℕ). Replays start s k x AtEnd false) (kept_whole s script kept told r.read) r)
from_completes start s k status.Refused (kept, r) script told short calm quiet =
    inr (inl (refl, subst (λ (x : List ℕ). Replays start s k x AtEnd true) (kept_whole s script kept told r.read) r))
from_completes start s k status.ReadFault (kept, refused, r) script told short calm quiet = absurd (calm r.read.ended.2)
from_completes start s k status.TooLong (kept, refused, r) script told short calm quiet =
    absurd (not_too_long s script kept told short r.read)
from_completes start s k status.WriteFault (rose, r) script told short calm quiet = absurd (quiet rose)
from_completes start s k status.NoMemory r script told short calm quiet = inr (inr refl)
from_completes start s k status.Usage r script told short calm quiet = absurd r
from_completes start s k status.WrongText r script told short calm quiet = absurd r
from_completes start s k status.OpenFault r script told short calm quiet = absurd r
from_completes start s k status.SaveFault r script told short calm quiet = absurd r
from_completes start s k status.Unsound r script told short calm quiet = absurd r
from_completes start s k status.NoProject r script told short calm quiet = absurd r

-- from the empty topology
pub completes : (s k : Passage) (t : Status) → EndsAs s k t → IsComplete s k (code_of t)
completes s k t ends = λ script told short calm quiet. from_completes empty_state s k t ends.ends script told short calm quiet

-- of a script that is too long
pub long_completes : (start : State) (s k : Passage) (t : Status) → EndsFrom start s k t → (script : List ℕ) → s.old ≡ Some script
    → script_limit < length script → ¬ (Rose s.before s.now) → ¬ (Rose k.before k.now)
    → ((code_of t ≡ 10) × ((refused : Bool) × Replays start s k (take script_limit script) TooLong refused)) ⊎ (code_of t ≡ 5)
long_completes start s k status.Done (kept, r) script told long calm quiet = absurd (not_at_end s script kept told long r.read)
long_completes start s k status.Refused (kept, r) script told long calm quiet = absurd (not_at_end s script kept told long r.read)
long_completes start s k status.ReadFault (kept, refused, r) script told long calm quiet = absurd (calm r.read.ended.2)
long_completes start s k status.TooLong (kept, refused, r) script told long calm quiet =
    inl (refl, (refused, subst (λ (x : List ℕ). Replays start s k x TooLong refused) (kept_front s script kept told r.read) r))
long_completes start s k status.WriteFault (rose, r) script told long calm quiet = absurd (quiet rose)
long_completes start s k status.NoMemory r script told long calm quiet = inr refl
long_completes start s k status.Usage r script told long calm quiet = absurd r
long_completes start s k status.WrongText r script told long calm quiet = absurd r
long_completes start s k status.OpenFault r script told long calm quiet = absurd r
long_completes start s k status.SaveFault r script told long calm quiet = absurd r
long_completes start s k status.Unsound r script told long calm quiet = absurd r
long_completes start s k status.NoProject r script told long calm quiet = absurd r
