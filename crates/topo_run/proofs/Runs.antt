-- A run goes on by one line, and ends.
--
-- SoFar ..      a run over the lines that are done: what of its text was written and what is pending
-- begins, takes, flushed, ends, stops     what the loop needs of it, turn by turn
use Rattle.std.proofs.Common.{ℕ, ◌≡◌, Bool, false, ◌||◌, List, [], ◌∷◌, ◌++◌, Option, refl, sym, ◌∙◌, ap, subst, append_assoc, append-nil, length, take, drop, ◌-◌, arith, rules}
use Rattle.std.proofs.lemmas.List.{take-append-drop, take_all, length-drop}
use Rattle.std.specs.Prelude.{Result, Ok, Err, OnErr}
use Rattle.std.specs.Io.KnownBytes.{Appends}
use Rattle.std.proofs.KnownBytes.{Appends-nil, Appends-trans}
use Rattle.script_terms.specs.State.{State, empty_state, OfAll, desk_of}
use Rattle.script_terms.specs.Run.{Outcome, Step, Run, text_of, any_refused, last_state, EachSound, EachInvariant, WritesPrefix}
use Rattle.script_terms.specs.Headline.{SoundHeadline, Invariant}
use Rattle.script_terms.proofs.Runs.{run_keeps}
use Rattle.script_terms.proofs.Starts.{last_sound, last_settled}
use Rattle.topology_terms.specs.Project.{IsOrdered}
use Rattle.topology_terms.specs.Settled.{IsSettled}
use Rattle.topology_terms.specs.Sound.{IsSound}
use Rattle.script_terms.specs.Keeping.{IsKeeping}
use Rattle.topo_run.specs.Told.{Course, Keeps, WritesTo}
use Rattle.topo_run.proofs.Stepping.{Takes}

pub record SoFar (start : State) (all rest : List (List ℕ)) (now : State) (before written : Option (List ℕ)) (pending : List ℕ)
    (refused : Bool) : Type 0 where
  pub course : Course start all rest now refused
  pub front : List ℕ
  pub text : text_of course.outcomes ≡ front ++ pending
  pub appended : Appends before written front

pub run_snoc : (s : State) (lines : List (List ℕ)) (os : List Outcome) (line : List ℕ) (o : Outcome) → Run s lines os
    → Step (last_state s os) line o → Run s (lines ++ line ∷ []) (os ++ o ∷ [])
run_snoc s [] [] line o run step = (step, tt)
run_snoc s [] (p ∷ os) line o run step = absurd run
run_snoc s (l ∷ lines) [] line o run step = absurd run
run_snoc s (l ∷ lines) (p ∷ os) line o run step = (run.0, run_snoc p.after lines os line o run.1 step)

pub last_snoc : (s : State) (os : List Outcome) (o : Outcome) → last_state s (os ++ o ∷ []) ≡ o.after
last_snoc s [] o = refl
last_snoc s (p ∷ os) o = last_snoc p.after os o

pub text_snoc : (os : List Outcome) (o : Outcome) → text_of (os ++ o ∷ []) ≡ text_of os ++ o.text
text_snoc [] o = append-nil o.text
text_snoc (p ∷ os) o = ap (λ t. p.text ++ t) (text_snoc os o) ∙ sym (append_assoc p.text (text_of os) o.text)

pub any_snoc : (os : List Outcome) (o : Outcome) → any_refused (os ++ o ∷ []) ≡ (any_refused os || o.refused)
any_snoc [] o = search rules
any_snoc (p ∷ os) o = grind (arith, any_snoc os o)

pub sound_snoc : (s : State) (os : List Outcome) (o : Outcome) → EachSound s os → OfAll SoundHeadline o.after → EachSound s (os ++ o ∷ [])
sound_snoc s [] o h k = (h, k)
sound_snoc s (p ∷ os) o h k = (h.0, sound_snoc p.after os o h.1 k)

pub invariant_snoc : (s : State) (os : List Outcome) (o : Outcome) → EachInvariant s os → OfAll Invariant o.after
    → EachInvariant s (os ++ o ∷ [])
invariant_snoc s [] o h k = (h, k)
invariant_snoc s (p ∷ os) o h k = (h.0, invariant_snoc p.after os o h.1 k)

-- ---- the course of a run
abbrev pub course_begins : (start : State) (all : List (List ℕ)) → Keeps start start → Course start all all start false
course_begins start all keeps = record {
  done = [];
  split = refl;
  outcomes = [];
  run = tt;
  last = refl;
  any = refl;
  sound = keeps.sound;
  invariant = keeps.invariant;
}

-- the state that it has come to
pub now_sound : {start now : State} {all rest : List (List ℕ)} {refused : Bool} → Course start all rest now refused → OfAll IsSound start
    → OfAll IsSound now
now_sound {start} {now} {all} {rest} {refused} far k =
    subst (λ (s : State). OfAll IsSound s) far.last (last_sound start far.outcomes (far.sound k))

pub now_settled : {start now : State} {all rest : List (List ℕ)} {refused : Bool} → Course start all rest now refused
    → OfAll IsSound start → OfAll IsSettled start → OfAll IsSettled now
now_settled {start} {now} {all} {rest} {refused} far k l =
    subst (λ (s : State). OfAll IsSettled s) far.last (last_settled start far.outcomes (far.invariant k l))

-- one line more was answered
abbrev pub course_goes_on : {start now : State} {all : List (List ℕ)} {line : List ℕ} {rest : List (List ℕ)} {refused : Bool} {o : Outcome}
    → Course start all (line ∷ rest) now refused → Step now line o → Keeps now o.after
    → Course start all rest o.after (refused || o.refused)
course_goes_on {start} {now} {all} {line} {rest} {refused} {o} far step keeps = record {
  done = far.done ++ line ∷ [];
  split = far.split ∙ sym (append_assoc far.done (line ∷ []) rest);
  outcomes = far.outcomes ++ o ∷ [];
  run = run_snoc start far.done far.outcomes line o far.run (rw far.last step);
  last = last_snoc start far.outcomes o;
  any = rw (any_snoc far.outcomes o, far.any) refl;
  sound = λ k. sound_snoc start far.outcomes o (far.sound k) (keeps.sound (now_sound far k));
  invariant = λ k l. invariant_snoc start far.outcomes o (far.invariant k l) (keeps.invariant (now_sound far k) (now_settled far k l));
}

-- no line is left
pub course_ends : {start now : State} {all lines : List (List ℕ)} {refused : Bool} (far : Course start all lines now refused) → lines ≡ []
    → all ≡ far.done
course_ends far none = rw (far.split, none, append-nil far.done) refl

-- ---- what of its text was written
pub begins : (start : State) (all : List (List ℕ)) (before : Option (List ℕ)) → Keeps start start
    → SoFar start all all start before before [] false
begins start all before keeps =
    record { course = course_begins start all keeps; front = []; text = refl; appended = Appends-nil before }

-- a line was answered, and its reply is pending
pub goes_on : {start now : State} {all : List (List ℕ)} {line : List ℕ} {rest : List (List ℕ)} {before written : Option (List ℕ)}
    {pending more : List ℕ} {refused : Bool} {o : Outcome} →
    SoFar start all (line ∷ rest) now before written pending refused → Step now line o → Keeps now o.after
    → more ≡ pending ++ o.text → SoFar start all rest o.after before written more (refused || o.refused)
goes_on {start} {now} {all} {line} {rest} {before} {written} {pending} {more} {refused} {o} far step keeps grown = record {
  course = course_goes_on {o = o} far.course step keeps;
  front = far.front;
  text = text_snoc far.course.outcomes o ∙ (ap (λ t. t ++ o.text) far.text ∙ (append_assoc far.front pending o.text
      ∙ ap (λ t. far.front ++ t) (sym grown)));
  appended = far.appended;
}

-- the first of what was pending was written, and this is pending still
pub flushed : {start now : State} {all rest : List (List ℕ)} {before written mid : Option (List ℕ)} {pending left : List ℕ} {refused : Bool}
    (part : List ℕ) →
    SoFar start all rest now before written pending refused → pending ≡ part ++ left → Appends written mid part
    → SoFar start all rest now before mid left refused
flushed {start} {now} {all} {rest} {before} {written} {mid} {pending} {left} {refused} part far split more = record {
  course = far.course;
  front = far.front ++ part;
  text = far.text ∙ (ap (λ t. far.front ++ t) split ∙ sym (append_assoc far.front part left));
  appended = Appends-trans before written mid far.front part far.appended more;
}

-- the same for a line and a reply as the calls tell them
pub takes : {start now next : State} {all lines : List (List ℕ)} {line : List ℕ} {rest : List (List ℕ)} {before written : Option (List ℕ)}
    {pending more : List ℕ} {refused bad : Bool} →
    SoFar start all lines now before written pending refused → lines ≡ line ∷ rest → Takes now line pending more bad next
    → SoFar start all rest next before written more (refused || bad)
takes {start} {now} {next} {all} {lines} {line} {rest} {before} {written} {pending} {more} {refused} {bad} far is taken =
    goes_on {o = record { text = taken.0; after = next; refused = bad }} (subst (λ (ls : List (List ℕ)). SoFar start all ls now before
    written pending refused) is far) taken.2 taken.3 taken.1

pub empty_ordered : OfAll IsOrdered empty_state
empty_ordered = (record { rules = tt; features = tt; next = tt; entries = tt }, tt)

-- all lines were answered, and what was pending is written
pub ends : {start now : State} {all lines : List (List ℕ)} {before written after : Option (List ℕ)} {pending bytes : List ℕ} {refused : Bool}
    → SoFar start all lines now before written pending refused → IsKeeping (desk_of start) → OfAll IsOrdered start → lines ≡ [] → bytes ≡ pending
    → Appends written after bytes → WritesTo start all before after refused now
ends {start} {now} {all} {lines} {before} {written} {after} {pending} {bytes} {refused} far keeping ordered none same more =
    let run : Run start all far.course.outcomes = rw (course_ends far.course none) far.course.run in
    record {
      run = record {
        outcomes = far.course.outcomes;
        run = run;
        written = rw far.text (Appends-trans before written after far.front pending far.appended
            (subst (λ (t : List ℕ). Appends written after t) same more));
        any = far.course.any;
        sound = far.course.sound;
        invariant = far.course.invariant;
        keeping = run_keeps start all far.course.outcomes keeping ordered run;
      };
      last = far.course.last;
    }

-- what was written so far is a prefix
pub stops : {start now : State} {all rest : List (List ℕ)} {before written : Option (List ℕ)} {pending : List ℕ} {refused : Bool}
    → SoFar start all rest now before written pending refused → IsKeeping (desk_of start) → OfAll IsOrdered start
    → WritesPrefix start all before written
stops {start} {now} {all} {rest} {before} {written} {pending} {refused} far keeping ordered = record {
  first = far.course.done;
  is_first = (rest, far.course.split);
  outcomes = far.course.outcomes;
  run = far.course.run;
  text = far.front;
  is_prefix = (pending, far.text);
  written = far.appended;
  sound = far.course.sound;
  invariant = far.course.invariant;
  keeping = run_keeps start far.course.done far.course.outcomes keeping ordered far.course.run;
}

-- what holds anyway
pub at_err : {T E P : Type 0} (r : Result T E) → P → OnErr r P
at_err (Ok x) p = tt
at_err (Err e) p = p

-- a part of what is left was taken
pub split_more : (all front rest : List ℕ) (n : ℕ) → all ≡ front ++ rest → all ≡ (front ++ take n rest) ++ drop n rest
split_more all front rest n split = split ∙ (ap (λ t. front ++ t) (sym (take-append-drop n rest))
    ∙ sym (append_assoc front (take n rest) (drop n rest)))

-- what a slice from an index on is
pub rest_from : (xs : List ℕ) (n : ℕ) → take (length xs - n) (drop n xs) ≡ drop n xs
rest_from xs n = take_all (length xs - n) (drop n xs) (omega (arith, length-drop n xs))
