-- A replayer goes through a piece, line by line.
--
-- InPiece ..       of all its lines some are answered; `left` follows, and `open` is the tail of the line that is not ended yet
-- piece_begins, piece_on, piece_flushed, piece_ends, piece_stops, piece_breaks     what the loop needs of it, turn by turn
use Rattle.std.proofs.Common.{ℕ, ◌≡◌, ◌≢◌, ◌<◌, Bool, true, false, ◌||◌, List, [], ◌∷◌, ◌++◌, Option, length, take, refl, sym, ◌∙◌, ap, subst, append-nil}
use Rattle.std.proofs.lemmas.Bool.{eqb-true, eqb-false}
use Rattle.std.proofs.lemmas.List.{nil_from_length}
use Rattle.std.specs.Prelude.{◌==◌, Result, Ok, Err, IfOk, IsErrAnd, IsErrOf}
use Rattle.std.specs.Io.KnownBytes.{Appends}
use Rattle.std.proofs.KnownBytes.{Appends-nil}
use Rattle.topology_terms.specs.Project.{IsOrdered}
use Rattle.text_terms.specs.Lines.{without_cr, lines_from, lines_of}
use Rattle.script_terms.specs.Keeping.{IsKeeping}
use Rattle.script_terms.specs.State.{State, OfAll, desk_of}
use Rattle.script_terms.specs.Run.{Outcome, Step, WritesPrefix}
use Rattle.topo_run.specs.Told.{Keeps}
use Rattle.topo_run.specs.Replayers.{rest_limit, HasNoLf, Holds, Replaying, EndsLine, Answers, BreaksIn, tail_from, tail_of}
use Rattle.topo_run.proofs.Breaking.{breaks}
use Rattle.topo_run.proofs.Tails.{lines_open, tail_open, no_lines, all_tail, lines_at_lf, tail_at_lf, last_of, last_there, holds_none, holds_more, none_held, some_held, cut_again, cut_step}
use Rattle.topo_run.proofs.Stepping.{Takes}
use Rattle.topo_run.proofs.Runs.{SoFar, begins, goes_on, flushed, ends, stops}

pub record InPiece (old : Replaying) (all : List (List ℕ)) (end : List ℕ) (now : Replaying) (left : List ℕ) (before written : Option (List ℕ))
    (pending : List ℕ) : Type 0 where
  pub any : Bool
  pub here : List ℕ
  pub holds : Holds here now.rest
  pub far : SoFar old.state all (lines_from false here left) now.state before written pending any
  pub flag : now.refused ≡ (old.refused || any)
  pub tail : tail_from here left ≡ end

pub or_none : (b : Bool) → b ≡ (b || false)
or_none true = refl
or_none false = refl

or_more : (a b c : Bool) → ((a || b) || c) ≡ (a || (b || c))
or_more true b c = refl
or_more false b c = refl

pub flag_on : (new now old any more : Bool) → new ≡ (now || more) → now ≡ (old || any) → new ≡ (old || (any || more))
flag_on new now old any more last so_far = last ∙ (ap (λ (b : Bool). b || more) so_far ∙ or_more old any more)

pub piece_begins : (old : Replaying) (tail piece : List ℕ) (before : Option (List ℕ)) → Keeps old.state old.state → Holds tail old.rest
    → InPiece old (lines_of false (tail ++ piece)) (tail_of (tail ++ piece)) old piece before before []
piece_begins old tail piece before keeps holds = record {
  any = false;
  here = tail;
  holds = holds;
  far = subst (λ (ls : List (List ℕ)). SoFar old.state (lines_of false (tail ++ piece)) ls old.state before before [] false)
      (lines_open false tail piece holds.unended) (begins old.state (lines_of false (tail ++ piece)) before keeps);
  flag = or_none old.refused;
  tail = sym (tail_open tail piece holds.unended);
}

pub piece_on : {old now next : Replaying} {all : List (List ℕ)} {end left : List ℕ} {before written : Option (List ℕ)} {pending more : List ℕ}
    (front after : List ℕ) → InPiece old all end now left before written pending → left ≡ front ++ 10 ∷ after → HasNoLf front
    → ((tail : List ℕ) → Holds tail now.rest → EndsLine now (tail ++ front) pending more next)
    → InPiece old all end next after before written more
piece_on {old} {now} {next} {all} {end} {left} {before} {written} {pending} {more} front after p split plain ended =
    let e : EndsLine now (p.here ++ front) pending more next = ended p.here p.holds in
    let lines : lines_from false p.here left ≡ without_cr (p.here ++ front) ∷ lines_from false [] after =
    ap (λ (t : List ℕ). lines_from false p.here t) split ∙ lines_at_lf false p.here front after plain in
    record {
      any = p.any || e.refused;
      here = [];
      holds = subst (λ (r : List ℕ). Holds [] r) (sym e.none) holds_none;
      far = goes_on {o = record { text = e.text; after = next.state; refused = e.refused }}
          (subst (λ (ls : List (List ℕ)). SoFar old.state all ls now.state before written pending p.any) lines p.far) e.step e.keeps e.grown;
      flag = flag_on next.refused now.refused old.refused p.any e.refused e.flag p.flag;
      tail = sym (ap (λ (t : List ℕ). tail_from p.here t) split ∙ tail_at_lf p.here front after plain) ∙ p.tail;
    }

pub piece_flushed : {old now : Replaying} {all : List (List ℕ)} {end left : List ℕ} {before written mid : Option (List ℕ)}
    {pending rest : List ℕ} (part : List ℕ) → InPiece old all end now left before written pending → pending ≡ part ++ rest
    → Appends written mid part → InPiece old all end now left before mid rest
piece_flushed {old} {now} {all} {end} {left} {before} {written} {mid} {pending} {rest} part p split more = record {
  any = p.any;
  here = p.here;
  holds = p.holds;
  far = flushed part p.far split more;
  flag = p.flag;
  tail = p.tail;
}

pub piece_ends : {old now next : Replaying} {all : List (List ℕ)} {end left : List ℕ} {before written after : Option (List ℕ)}
    {pending bytes : List ℕ} → InPiece old all end now left before written pending → HasNoLf left → IsKeeping (desk_of old.state)
    → OfAll IsOrdered old.state → next ≡ record { state = now.state; rest = take rest_limit (now.rest ++ left); refused = now.refused }
    → bytes ≡ pending → Appends written after bytes → Answers old all end before after next
piece_ends {old} {now} {next} {all} {end} {left} {before} {written} {after} {pending} {bytes} p plain keeping ordered is same more =
    subst (λ (r : Replaying). Answers old all end before after r) (sym is) (record {
      refused = p.any;
      run = ends p.far keeping ordered (no_lines p.here left plain) same more;
      holds = subst (λ (t : List ℕ). Holds t (take rest_limit (now.rest ++ left))) (sym (all_tail p.here left plain) ∙ p.tail)
          (holds_more left p.holds plain);
      flag = p.flag;
    })

pub piece_stops : {old now : Replaying} {all : List (List ℕ)} {end left : List ℕ} {before written : Option (List ℕ)} {pending : List ℕ}
    → InPiece old all end now left before written pending → IsKeeping (desk_of old.state) → OfAll IsOrdered old.state
    → WritesPrefix old.state all before written
piece_stops p keeping ordered = stops p.far keeping ordered

pub piece_breaks : {old now : Replaying} {all : List (List ℕ)} {end left : List ℕ} {before written mid : Option (List ℕ)}
    {pending : List ℕ} (part rest : List ℕ) → InPiece old all end now left before written pending → IsKeeping (desk_of old.state)
    → OfAll IsOrdered old.state → pending ≡ part ++ rest → length part < length pending → Appends written mid part
    → BreaksIn old.state all before mid
piece_breaks part rest p keeping ordered split short more = breaks part rest p.far keeping ordered split short more

-- ---- the last line, which no LF ends

-- nothing is held
pub nothing_ends : (old : Replaying) (tail : List ℕ) (before : Option (List ℕ)) → Keeps old.state old.state → IsKeeping (desk_of old.state)
    → OfAll IsOrdered old.state → old.rest ≡ [] → Holds tail old.rest → Answers old (lines_of true tail) [] before before old
nothing_ends old tail before keeps keeping ordered none holds =
    let empty : tail ≡ [] = none_held tail old.rest holds none in
    record {
      refused = false;
      run = ends (begins old.state (lines_of true tail) before keeps) keeping ordered (ap (λ (t : List ℕ). lines_of true t) empty) refl
          (Appends-nil before);
      holds = subst (λ (r : List ℕ). Holds [] r) (sym none) holds_none;
      flag = or_none old.refused;
    }

pub last_far : {old next : Replaying} {pending : List ℕ} (tail : List ℕ) (before : Option (List ℕ)) → Keeps old.state old.state
    → old.rest ≢ [] → Holds tail old.rest → (e : EndsLine old (tail ++ []) [] pending next)
    → SoFar old.state (lines_of true tail) [] next.state before before pending (false || e.refused)
last_far {old} {next} {pending} tail before keeps some holds e =
    let line : lines_of true tail ≡ without_cr (tail ++ []) ∷ [] =
    last_of tail holds.unended ∙ (last_there tail (some_held tail old.rest holds some)
    ∙ ap (λ (t : List ℕ). without_cr t ∷ []) (sym (append-nil tail))) in
    goes_on {o = record { text = e.text; after = next.state; refused = e.refused }}
    (subst (λ (ls : List (List ℕ)). SoFar old.state (lines_of true tail) ls old.state before before [] false) line
    (begins old.state (lines_of true tail) before keeps)) e.step e.keeps e.grown

pub last_ends : {old next : Replaying} {pending bytes : List ℕ} {before after : Option (List ℕ)} (tail : List ℕ) → Keeps old.state old.state
    → IsKeeping (desk_of old.state) → OfAll IsOrdered old.state → old.rest ≢ [] → Holds tail old.rest
    → ((t : List ℕ) → Holds t old.rest → EndsLine old (t ++ []) [] pending next) → bytes ≡ pending → Appends before after bytes
    → Answers old (lines_of true tail) [] before after next
last_ends {old} {next} {pending} {bytes} {before} {after} tail keeps keeping ordered some holds ended same more =
    let e : EndsLine old (tail ++ []) [] pending next = ended tail holds in
    record {
      refused = false || e.refused;
      run = ends (last_far tail before keeps some holds e) keeping ordered refl same more;
      holds = subst (λ (r : List ℕ). Holds [] r) (sym e.none) holds_none;
      flag = e.flag;
    }

pub last_breaks : {old next : Replaying} {pending : List ℕ} {before mid : Option (List ℕ)} (tail part rest : List ℕ) → Keeps old.state old.state
    → IsKeeping (desk_of old.state) → OfAll IsOrdered old.state → old.rest ≢ [] → Holds tail old.rest
    → ((t : List ℕ) → Holds t old.rest → EndsLine old (t ++ []) [] pending next) → pending ≡ part ++ rest → length part < length pending
    → Appends before mid part → BreaksIn old.state (lines_of true tail) before mid
last_breaks {old} {next} {pending} {before} {mid} tail part rest keeps keeping ordered some holds ended split short more =
    breaks part rest (last_far tail before keeps some holds (ended tail holds)) keeping ordered split short more

-- nothing was written
pub none_written : (start : State) (lines : List (List ℕ)) (before : Option (List ℕ)) → Keeps start start → IsKeeping (desk_of start)
    → OfAll IsOrdered start → WritesPrefix start lines before before
none_written start lines before keeps keeping ordered = stops (begins start lines before keeps) keeping ordered

-- ---- the answer to a line that ends

-- nothing was held of it
pub ended_whole : {E : Type 0} (r : Result Bool E) (rest end line : List ℕ) (w v : State) (old new : List ℕ)
    → IfOk r (λ refused. Takes w line old new refused v) → line ≡ without_cr end → rest ≡ []
    → IfOk r (λ refused. (tail : List ℕ) → Holds tail rest → Takes w (without_cr (tail ++ end)) old new refused v)
ended_whole (Ok b) rest end line w v old new t is none = λ tail h. subst (λ (l : List ℕ). Takes w l old new b v)
    (is ∙ ap (λ (t : List ℕ). without_cr (t ++ end)) (sym (none_held tail rest h none))) t
ended_whole (Err e) rest end line w v old new t is none = tt

-- of what was held and of what ends it no more than the limit
pub ended_cut : {E : Type 0} (r : Result Bool E) (rest end held line : List ℕ) (w v : State) (old new : List ℕ)
    → IfOk r (λ refused. Takes w line old new refused v) → line ≡ without_cr held → held ≡ take rest_limit (rest ++ end)
    → IfOk r (λ refused. (tail : List ℕ) → Holds tail rest → Takes w (without_cr (tail ++ end)) old new refused v)
ended_cut (Ok b) rest end held line w v old new t is cut = λ tail h.
    let same : held ≡ take rest_limit (tail ++ end) =
    cut ∙ (ap (λ (r : List ℕ). take rest_limit (r ++ end)) h.cut ∙ cut_again rest_limit tail end) in
    let o : Outcome = record { text = t.0; after = v; refused = b } in
    (t.0, t.1, cut_step w (tail ++ end) o (subst (λ (l : List ℕ). Step w l o) (is ∙ ap without_cr same) t.2), t.3)
ended_cut (Err e) rest end held line w v old new t is cut = tt

-- the replayer after it
pub line_ended : {old next : Replaying} {w v : State} {rest left end gathered more : List ℕ} {flag bad now : Bool}
    → record { state = w; rest = rest; refused = flag } ≡ old → next ≡ record { state = v; rest = left; refused = now }
    → ((tail : List ℕ) → Holds tail rest → Takes w (without_cr (tail ++ end)) gathered more bad v) → left ≡ [] → now ≡ (flag || bad)
    → (tail : List ℕ) → Holds tail old.rest → EndsLine old (tail ++ end) gathered more next
line_ended {old} {next} {w} {v} {rest} {left} {end} {gathered} {more} {flag} {bad} {now} was is taken none marked tail holds =
    let was_rest : old.rest ≡ rest = sym (ap (λ (r : Replaying). r.rest) was) in
    let t = taken tail (subst (λ (r : List ℕ). Holds tail r) was_rest holds) in
    subst (λ (r : Replaying). EndsLine r (tail ++ end) gathered more next) was
    (subst (λ (r : Replaying). EndsLine (record { state = w; rest = rest; refused = flag }) (tail ++ end) gathered more r) (sym is) (record {
      refused = bad;
      text = t.0;
      grown = t.1;
      step = t.2;
      keeps = t.3;
      none = none;
      flag = marked;
    }))

-- whether something is held
pub empty_rest : (rest : List ℕ) → (length rest == 0) ≡ true → rest ≡ []
empty_rest rest test = nil_from_length rest (eqb-true (length rest) 0 test)

pub filled_rest : (rest : List ℕ) → (length rest == 0) ≡ false → rest ≢ []
filled_rest rest test = λ none. eqb-false (length rest) 0 test (ap (length {A = ℕ}) none)

-- the same error of another call
pub err_is : {A E : Type 0} (e f : E) → IsErrOf {T = A} {E = E} (Err e) f → e ≡ f
err_is e f is = cc

abbrev pub err_of : {A E : Type 0} → E → Result A E
err_of e = Err e

pub err_again : {A E : Type 0} (e f : E) → e ≡ f → IsErrOf {T = A} {E = E} (Err e) f
err_again {A} {E} e f is = ap (err_of {A = A} {E = E}) is

-- an error that was passed on
pub err_through : {A B E : Type 0} (r : Result B E) (e f : E) → IsErrAnd r (λ x. x ≡ e) → IsErrOf r f → IsErrOf {T = A} {E = E} (Err e) f
err_through (Ok x) e f gives is = absurd gives
err_through {A} {B} {E} (Err x) e f gives is = err_again e f (sym gives ∙ err_is x f is)
