-- What a shelf holds after calls, one after another; and how a replay ends that saves.
use Rattle.std.proofs.Common.{ℕ, ◌≡◌, ◌≢◌, ◌≤◌, ◌⊎◌, Bool, true, false, List, Option, None, Some, inl, inr, refl, sym, ◌∙◌, ap, subst, arith, length, take, ◌<◌}
use Rattle.std.specs.Prelude.{Result, Ok, Err, OnOk, codes}
use Rattle.topology_terms.specs.Project.{Project}
use Rattle.project_terms.specs.Records.{IsRecord}
use Rattle.project_terms.specs.Written.{project_text}
use Rattle.outside_terms.specs.Faults.{Rose}
use Rattle.outside_terms.specs.Reads.{Passage, script_limit}
use Rattle.outside_terms.specs.Shelves.{Held, KeepsHeld, KeepsOthers, SetsHeld, Visit}
use Rattle.outside_terms.specs.Statuses.{code_of}
use Rattle.outside_terms.specs.declared.end.End.TheVariants.{AtEnd, TooLong}
use Rattle.outside_terms.specs.declared.status.Status.{Status}
use Rattle.outside_terms.specs.declared.status.Status.TheVariants as status
use Rattle.script_terms.specs.Ends.{Replays, EndsFrom, EndsAs}
use Rattle.script_terms.specs.Run.{last_state}
use Rattle.version_terms.specs.Versions.{root_of}
use Rattle.script_terms.specs.State.{State, empty_state, tree_of}
use Rattle.script_terms.proofs.Starts.{root_settled, root_sound, last_sound, last_settled}
use Rattle.opening_terms.specs.Opening.{EndsUnopened, IsOpeningComplete}
use Rattle.opening_terms.specs.Replaying.{IsStart, IsToldStart, start_of, EndsAsReplayOf, IsReplayOfComplete}
use Rattle.opening_terms.specs.Saving.{Saves, SavesRun, EndsSaving, EndsAsReplayTo, IsReplayToComplete}
use Rattle.topo_run.specs.Told.{ReplaysTo, EndsAt}
use Rattle.topo_run.specs.Unopened.{IfUnopened, is_answered}
use Rattle.topo_run.proofs.Endings.{all_some, began, kept_whole, not_too_long, not_at_end, from_completes, long_completes}
use Rattle.topo_run.proofs.Opened.{one_under, opened_complete, unopened_complete, unopened_told}

-- ---- what is held
pub same_held : (held : Option Held) → KeepsHeld held held
same_held None = tt
same_held (Some held) = λ name. refl

keeps_keeps : (old mid new : Option Held) → KeepsHeld old mid → KeepsHeld mid new → KeepsHeld old new
keeps_keeps None mid new a b = tt
keeps_keeps (Some o) None new a b = absurd a
keeps_keeps (Some o) (Some m) None a b = absurd b
keeps_keeps (Some o) (Some m) (Some n) a b = λ name. b name ∙ a name

keeps_others : (old mid new : Option Held) (name : List ℕ) → KeepsHeld old mid → KeepsOthers mid new name → KeepsOthers old new name
keeps_others None mid new name a b = tt
keeps_others (Some o) None new name a b = absurd a
keeps_others (Some o) (Some m) None name a b = absurd b
keeps_others (Some o) (Some m) (Some n) name a b = λ other differ. b other differ ∙ a other

keeps_sets : (old mid new : Option Held) (name bytes : List ℕ) → KeepsHeld old mid → SetsHeld mid new name bytes → SetsHeld old new name bytes
keeps_sets None mid new name bytes a b = tt
keeps_sets (Some o) None new name bytes a b = absurd a
keeps_sets (Some o) (Some m) None name bytes a b = absurd b
keeps_sets (Some o) (Some m) (Some n) name bytes a b = b

rose_later : (before mid now : ℕ) → before ≤ mid → Rose mid now → Rose before now
rose_later before mid now a b = omega (arith, a, b)

-- no status says that nothing was opened, where nothing was read
pub if_unopened : {P : Type 0} (t : Status) → P → IfUnopened t P
if_unopened status.WrongText p = p
if_unopened status.OpenFault p = p
if_unopened status.NoProject p = p
if_unopened status.Done p = tt
if_unopened status.Refused p = tt
if_unopened status.Usage p = tt
if_unopened status.ReadFault p = tt
if_unopened status.WriteFault p = tt
if_unopened status.NoMemory p = tt
if_unopened status.SaveFault p = tt
if_unopened status.Unsound p = tt
if_unopened status.TooLong p = tt

-- a plain replay opens nothing
pub none_opened : (P : Type 0) (s k : Passage) (t : Status) → EndsAs s k t → IfUnopened t P
none_opened P s k t r = began P empty_state s k t r.ends

-- by its number
pub by_code : {P : Type 0} (t : Status) (code : ℕ) → code ≡ code_of t → IfUnopened t P → (code ≡ 6) ⊎ ((code ≡ 7) ⊎ (code ≡ 11)) → P
by_code status.WrongText code is p among = p
by_code status.OpenFault code is p among = p
by_code status.NoProject code is p among = p
by_code status.Done code is p among = absurd (omega (arith, is, among))
by_code status.Refused code is p among = absurd (omega (arith, is, among))
by_code status.Usage code is p among = absurd (omega (arith, is, among))
by_code status.ReadFault code is p among = absurd (omega (arith, is, among))
by_code status.WriteFault code is p among = absurd (omega (arith, is, among))
by_code status.NoMemory code is p among = absurd (omega (arith, is, among))
by_code status.SaveFault code is p among = absurd (omega (arith, is, among))
by_code status.Unsound code is p among = absurd (omega (arith, is, among))
by_code status.TooLong code is p among = absurd (omega (arith, is, among))

pub ruleset stays = (same_held, if_unopened)

-- ---- a project is saved
pub puts : {E : Type 0} (h : Visit) (target text bytes : List ℕ) (p q : Project) (r : Result (Unit {0}) E)
    → OnOk r (SetsHeld h.old h.new target bytes) → KeepsOthers h.old h.new target → bytes ≡ text → text ≡ project_text q → q ≡ p → IsRecord q
    → OnOk r (Saves h target p)
puts h target text bytes p q (Ok u) put others same says is valid = record {
  text = text;
  says = record { record_of = subst IsRecord is valid; text = inl (says ∙ ap project_text is) };
  format = says ∙ ap project_text is;
  put = subst (λ (b : List ℕ). SetsHeld h.old h.new target b) same put;
  others = others;
}
puts h target text bytes p q (Err e) put others same says is valid = tt

-- ---- a replay that saves
clash : true ≡ false → ⊥
clash e = cc

pub answered : (t : Status) → is_answered t ≡ true → (t ≡ status.Done) ⊎ (t ≡ status.Refused)
answered status.Done test = inl refl
answered status.Refused test = inr refl
answered status.Usage test = cc
answered status.ReadFault test = cc
answered status.WriteFault test = cc
answered status.NoMemory test = cc
answered status.WrongText test = cc
answered status.OpenFault test = cc
answered status.SaveFault test = cc
answered status.Unsound test = cc
answered status.TooLong test = cc
answered status.NoProject test = cc

pub not_answered : (start last : State) (target : List ℕ) (s : Passage) (h : Visit) (k : Passage) (t : Status) → EndsAt start last s k t
    → is_answered t ≡ false → KeepsHeld h.old h.new → EndsSaving start target s h k t
not_answered start last target s h k status.Done r test held = absurd (clash test)
not_answered start last target s h k status.Refused r test held = absurd (clash test)
not_answered start last target s h k status.SaveFault r test held = absurd r
not_answered start last target s h k status.Usage r test held = (r, held)
not_answered start last target s h k status.ReadFault r test held = (r, held)
not_answered start last target s h k status.WriteFault r test held = (r, held)
not_answered start last target s h k status.NoMemory r test held = (r, held)
not_answered start last target s h k status.WrongText r test held = (r, held)
not_answered start last target s h k status.OpenFault r test held = (r, held)
not_answered start last target s h k status.Unsound r test held = (r, held)
not_answered start last target s h k status.TooLong r test held = (r, held)
not_answered start last target s h k status.NoProject r test held = (r, held)

saves_run : (start last : State) (target : List ℕ) (s : Passage) (h : Visit) (k : Passage) (refused : Bool)
    → (r : ReplaysTo start last s k refused) → Saves h target (root_of (tree_of last)) → SavesRun start target s h k r.kept refused
saves_run start last target s h k refused r saved = record {
  all = r.all;
  saved = subst (λ (x : State). Saves h target (root_of (tree_of x))) (sym r.last) saved;
  sound = λ i. root_sound (last_state start r.all.run.outcomes) (last_sound start r.all.run.outcomes (r.all.run.sound i));
  settled = λ i l. root_settled (last_state start r.all.run.outcomes) (last_settled start r.all.run.outcomes (r.all.run.invariant i l));
}

pub answered_saved : (start last : State) (target : List ℕ) (s : Passage) (h : Visit) (k : Passage) (t : Status) → EndsAt start last s k t
    → (t ≡ status.Done) ⊎ (t ≡ status.Refused) → Saves h target (root_of (tree_of last)) → EndsSaving start target s h k t
answered_saved start last target s h k t ends (inl is) saved =
    subst (λ (x : Status). EndsSaving start target s h k x) (sym is) (
    let r : ReplaysTo start last s k false = subst (λ (x : Status). EndsAt start last s k x) is ends in
    (r.kept, saves_run start last target s h k false r saved))
answered_saved start last target s h k t ends (inr is) saved =
    subst (λ (x : Status). EndsSaving start target s h k x) (sym is) (
    let r : ReplaysTo start last s k true = subst (λ (x : Status). EndsAt start last s k x) is ends in
    (r.kept, saves_run start last target s h k true r saved))

-- all of the source was replayed
pub all_of : (start last : State) (s k : Passage) (t : Status) → EndsAt start last s k t → (t ≡ status.Done) ⊎ (t ≡ status.Refused)
    → (kept : List ℕ) × (refused : Bool) × Replays start s k kept AtEnd refused
all_of start last s k t ends (inl is) =
    let r : ReplaysTo start last s k false = subst (λ (x : Status). EndsAt start last s k x) is ends in (r.kept, false, r.all)
all_of start last s k t ends (inr is) =
    let r : ReplaysTo start last s k true = subst (λ (x : Status). EndsAt start last s k x) is ends in (r.kept, true, r.all)

pub answered_failed : (start last : State) (target : List ℕ) (s : Passage) (h : Visit) (k : Passage) (t : Status) → EndsAt start last s k t
    → (t ≡ status.Done) ⊎ (t ≡ status.Refused) → Rose h.before h.now → KeepsOthers h.old h.new target
    → EndsSaving start target s h k status.SaveFault
answered_failed start last target s h k t ends is rose others =
    let r = all_of start last s k t ends is in
    record { kept = r.0; refused = r.1; all = r.2; rose = rose; others = others }

pub answered_out : (start last : State) (target : List ℕ) (s : Passage) (h : Visit) (k : Passage) (t : Status) → EndsAt start last s k t
    → (t ≡ status.Done) ⊎ (t ≡ status.Refused) → KeepsHeld h.old h.new → EndsSaving start target s h k status.NoMemory
answered_out start last target s h k t ends is held =
    let r = all_of start last s k t ends is in
    (all_some start s k r.0 r.1 r.2, held)

-- the project was opened before
after_saves : (target : List ℕ) (h : Visit) (old : Option Held) (before : ℕ) (p : Project) → KeepsHeld old h.old → Saves h target p
    → Saves (record { old = old; new = h.new; before = before; now = h.now }) target p
after_saves target h old before p held saved = record {
  text = saved.text;
  says = saved.says;
  format = saved.format;
  put = keeps_sets old h.old h.new target saved.text held saved.put;
  others = keeps_others old h.old h.new target held saved.others;
}

after_run : (start : State) (target : List ℕ) (s : Passage) (h : Visit) (k : Passage) (old : Option Held) (before : ℕ) (kept : List ℕ)
    (refused : Bool) → KeepsHeld old h.old → SavesRun start target s h k kept refused
    → SavesRun start target s (record { old = old; new = h.new; before = before; now = h.now }) k kept refused
after_run start target s h k old before kept refused held r = record {
  all = r.all;
  saved = after_saves target h old before (root_of (tree_of (last_state start r.all.run.outcomes))) held r.saved;
  sound = r.sound;
  settled = r.settled;
}

pub after_opening : (start : State) (target : List ℕ) (s : Passage) (h : Visit) (k : Passage) (old : Option Held) (before : ℕ) (t : Status)
    → KeepsHeld old h.old → before ≤ h.before → EndsSaving start target s h k t
    → EndsSaving start target s (record { old = old; new = h.new; before = before; now = h.now }) k t
after_opening start target s h k old before status.Done held late (kept, r) = (kept, after_run start target s h k old before kept false held r)
after_opening start target s h k old before status.Refused held late (kept, r) =
    (kept, after_run start target s h k old before kept true held r)
after_opening start target s h k old before status.SaveFault held late r = record {
  kept = r.kept;
  refused = r.refused;
  all = r.all;
  rose = rose_later before h.before h.now late r.rose;
  others = keeps_others old h.old h.new target held r.others;
}
after_opening start target s h k old before status.Usage held late r = (r.0, keeps_keeps old h.old h.new held r.1)
after_opening start target s h k old before status.ReadFault held late r = (r.0, keeps_keeps old h.old h.new held r.1)
after_opening start target s h k old before status.WriteFault held late r = (r.0, keeps_keeps old h.old h.new held r.1)
after_opening start target s h k old before status.NoMemory held late r = (r.0, keeps_keeps old h.old h.new held r.1)
after_opening start target s h k old before status.WrongText held late r = (r.0, keeps_keeps old h.old h.new held r.1)
after_opening start target s h k old before status.OpenFault held late r = (r.0, keeps_keeps old h.old h.new held r.1)
after_opening start target s h k old before status.Unsound held late r = (r.0, keeps_keeps old h.old h.new held r.1)
after_opening start target s h k old before status.TooLong held late r = (r.0, keeps_keeps old h.old h.new held r.1)
after_opening start target s h k old before status.NoProject held late r = (r.0, keeps_keeps old h.old h.new held r.1)

pub began_saving : (P : Type 0) (start : State) (target : List ℕ) (s : Passage) (h : Visit) (k : Passage) (t : Status)
    → EndsSaving start target s h k t → IfUnopened t P
began_saving P start target s h k status.WrongText r = absurd r.0
began_saving P start target s h k status.OpenFault r = absurd r.0
began_saving P start target s h k status.NoProject r = absurd r.0
began_saving P start target s h k status.Done r = tt
began_saving P start target s h k status.Refused r = tt
began_saving P start target s h k status.Usage r = tt
began_saving P start target s h k status.ReadFault r = tt
began_saving P start target s h k status.WriteFault r = tt
began_saving P start target s h k status.NoMemory r = tt
began_saving P start target s h k status.SaveFault r = tt
began_saving P start target s h k status.Unsound r = tt
began_saving P start target s h k status.TooLong r = tt

-- ---- where nothing fails

one_start : (held : Option Held) (name : List ℕ) (p q : Project) → IsStart held name p → IsToldStart held name q → p ≡ q
one_start held name p q (inl (is, empty)) (inl (also, none)) = empty ∙ sym none
one_start held name p q (inl (is, empty)) (inr (other, told)) = absurd (other is)
one_start held name p q (inr (other, under)) (inl (is, none)) = absurd (other is)
one_start held name p q (inr (other, under)) (inr (also, told)) = one_under held name p q under told

-- the start is told, and no project was opened: memory ran out
start_told : (name : List ℕ) (h : Visit) (k : Passage) (t : Status) (p : Project) → name ≢ codes "-" → EndsUnopened name h k t
    → IsToldStart h.old name p → ¬ (Rose h.before h.now) → ¬ (Rose k.before k.now) → code_of t ≡ 5
start_told name h k t p other ends (inl (is, none)) sure quiet = absurd (other is)
start_told name h k t p other ends (inr (also, told)) sure quiet = unopened_told name h k t p ends told sure quiet

pub replay_of_completes : (name : List ℕ) (s : Passage) (h : Visit) (k : Passage) (t : Status) → EndsAsReplayOf name s h k t
    → IsReplayOfComplete name s h k (code_of t)
replay_of_completes name s h k t (inl (p, is, ends)) = record {
  whole = λ q told script has short calm sure quiet.
      from_completes (start_of q) s k t (subst (λ (x : Project). EndsFrom (start_of x) s k t) (one_start h.old name p q is told) ends) script has
      short calm quiet;
  long = λ q told script has over calm sure quiet.
      long_completes (start_of q) s k t (subst (λ (x : Project). EndsFrom (start_of x) s k t) (one_start h.old name p q is told) ends) script has
      over calm quiet;
}
replay_of_completes name s h k t (inr (other, ends)) = record {
  whole = λ q told script has short calm sure quiet. inr (inr (start_told name h k t q other ends told sure quiet));
  long = λ q told script has over calm sure quiet. inr (start_told name h k t q other ends told sure quiet);
}

pub replay_of_opening : (name : List ℕ) (s : Passage) (h : Visit) (k : Passage) (t : Status) → EndsAsReplayOf name s h k t
    → name ≢ codes "-" → IsOpeningComplete name h k (code_of t)
replay_of_opening name s h k t (inl (p, inl (is, empty), ends)) other = absurd (other is)
replay_of_opening name s h k t (inl (p, inr (also, under), ends)) other = opened_complete name h k (code_of t) p under
replay_of_opening name s h k t (inr (also, ends)) other = unopened_complete name h k t ends

saving_whole : (start : State) (target : List ℕ) (s : Passage) (h : Visit) (k : Passage) (t : Status) → EndsSaving start target s h k t
    → (script : List ℕ) → s.old ≡ Some script → length script ≤ script_limit → ¬ (Rose s.before s.now) → ¬ (Rose h.before h.now)
    → ¬ (Rose k.before k.now)
    → ((code_of t ≡ 0) × SavesRun start target s h k script false)
    ⊎ (((code_of t ≡ 1) × SavesRun start target s h k script true) ⊎ (code_of t ≡ 5))
saving_whole start target s h k status.Done (kept, r) script told short calm sure quiet =
    inl (refl, subst (λ (x : List ℕ). SavesRun start target s h k x false) (kept_whole s script kept told r.all.read) r)
saving_whole start target s h k status.Refused (kept, r) script told short calm sure quiet =
    inr (inl (refl, subst (λ (x : List ℕ). SavesRun start target s h k x true) (kept_whole s script kept told r.all.read) r))
saving_whole start target s h k status.SaveFault r script told short calm sure quiet = absurd (sure r.rose)
saving_whole start target s h k status.ReadFault ((kept, refused, r), held) script told short calm sure quiet = absurd (calm r.read.ended.2)
saving_whole start target s h k status.TooLong ((kept, refused, r), held) script told short calm sure quiet =
    absurd (not_too_long s script kept told short r.read)
saving_whole start target s h k status.WriteFault ((rose, r), held) script told short calm sure quiet = absurd (quiet rose)
saving_whole start target s h k status.NoMemory r script told short calm sure quiet = inr (inr refl)
saving_whole start target s h k status.Usage r script told short calm sure quiet = absurd r.0
saving_whole start target s h k status.WrongText r script told short calm sure quiet = absurd r.0
saving_whole start target s h k status.OpenFault r script told short calm sure quiet = absurd r.0
saving_whole start target s h k status.Unsound r script told short calm sure quiet = absurd r.0
saving_whole start target s h k status.NoProject r script told short calm sure quiet = absurd r.0

saving_long : (start : State) (target : List ℕ) (s : Passage) (h : Visit) (k : Passage) (t : Status) → EndsSaving start target s h k t
    → (script : List ℕ) → s.old ≡ Some script → script_limit < length script → ¬ (Rose s.before s.now) → ¬ (Rose h.before h.now)
    → ¬ (Rose k.before k.now)
    → ((code_of t ≡ 10) × ((refused : Bool) × Replays start s k (take script_limit script) TooLong refused) × KeepsHeld h.old h.new)
    ⊎ (code_of t ≡ 5)
saving_long start target s h k status.Done (kept, r) script told over calm sure quiet =
    absurd (not_at_end s script kept told over r.all.read)
saving_long start target s h k status.Refused (kept, r) script told over calm sure quiet =
    absurd (not_at_end s script kept told over r.all.read)
saving_long start target s h k status.SaveFault r script told over calm sure quiet = absurd (sure r.rose)
saving_long start target s h k status.ReadFault ((kept, refused, r), held) script told over calm sure quiet = absurd (calm r.read.ended.2)
saving_long start target s h k status.TooLong (r, held) script told over calm sure quiet =
    by (long_completes start s k status.TooLong r script told over calm quiet)
  where
    by : ((code_of status.TooLong ≡ 10) × ((refused : Bool) × Replays start s k (take script_limit script) TooLong refused))
        ⊎ (code_of status.TooLong ≡ 5)
        → ((code_of status.TooLong ≡ 10) × ((refused : Bool) × Replays start s k (take script_limit script) TooLong refused)
        × KeepsHeld h.old h.new) ⊎ (code_of status.TooLong ≡ 5)
    by (inl (is, all)) = inl (is, all, held)
    by (inr is) = inr is
saving_long start target s h k status.WriteFault ((rose, r), held) script told over calm sure quiet = absurd (quiet rose)
saving_long start target s h k status.NoMemory r script told over calm sure quiet = inr refl
saving_long start target s h k status.Usage r script told over calm sure quiet = absurd r.0
saving_long start target s h k status.WrongText r script told over calm sure quiet = absurd r.0
saving_long start target s h k status.OpenFault r script told over calm sure quiet = absurd r.0
saving_long start target s h k status.Unsound r script told over calm sure quiet = absurd r.0
saving_long start target s h k status.NoProject r script told over calm sure quiet = absurd r.0

pub replay_to_completes : (name target : List ℕ) (s : Passage) (h : Visit) (k : Passage) (t : Status) → EndsAsReplayTo name target s h k t
    → IsReplayToComplete name target s h k (code_of t)
replay_to_completes name target s h k t (inl (p, is, ends)) = record {
  whole = λ q told script has short calm sure quiet.
      saving_whole (start_of q) target s h k t (subst (λ (x : Project). EndsSaving (start_of x) target s h k t) (one_start h.old name p q is told)
      ends) script has short calm sure quiet;
  long = λ q told script has over calm sure quiet.
      saving_long (start_of q) target s h k t (subst (λ (x : Project). EndsSaving (start_of x) target s h k t) (one_start h.old name p q is told)
      ends) script has over calm sure quiet;
}
replay_to_completes name target s h k t (inr (other, ends, held)) = record {
  whole = λ q told script has short calm sure quiet. inr (inr (start_told name h k t q other ends told sure quiet));
  long = λ q told script has over calm sure quiet. inr (start_told name h k t q other ends told sure quiet);
}

pub replay_to_opening : (name target : List ℕ) (s : Passage) (h : Visit) (k : Passage) (t : Status) → EndsAsReplayTo name target s h k t
    → name ≢ codes "-" → IsOpeningComplete name h k (code_of t)
replay_to_opening name target s h k t (inl (p, inl (is, empty), ends)) other = absurd (other is)
replay_to_opening name target s h k t (inl (p, inr (also, under), ends)) other = opened_complete name h k (code_of t) p under
replay_to_opening name target s h k t (inr (also, ends, held)) other = unopened_complete name h k t ends
