-- Many tokens read at once.
--
-- passes_on            reading goes on past tokens that the table takes
-- passes_none, passes_position, passes_others, passes_then     what is passed: nothing, a position, positions behind commas, one after
--                      another
-- more_none, more_one  positions behind commas, one by one
-- passes_le, more_lt   what is left gets no longer, or shorter
use Rattle.std.proofs.Common.{ℕ, ◌≡◌, ◌<◌, ◌≤◌, List, [], ◌∷◌, ◌++◌, length, Result, Ok, refl, sym, ap, ◌∙◌, subst, append_assoc, append-nil, arith}
use Rattle.plane_terms.specs.Point.{Place}
use Rattle.text_terms.specs.Fields.{skip_blanks}
use Rattle.wkt_terms.specs.Grammar.{position, commas}
use Rattle.wkt_terms.specs.Tokens.{Token, Comma, StartsWith, token_at, behind_token}
use Rattle.wkt_laws.specs.Steps.{Cause, Owner, State, Start, BeforeX, AfterPosition, after_comma, run, More, Passes}
use Rattle.wkt_laws.proofs.Grammar.{commas-snoc, run-append, run_commas}
use Rattle.wkt_laws.proofs.Reading.{Read, StartsWith-le, behind_token-lt, skip_blanks-le}

pub StartsWith-append : (text : List ℕ) (xs ys : List Token) (rest left : List ℕ) → StartsWith text xs rest → StartsWith rest ys left
    → StartsWith text (xs ++ ys) left
StartsWith-append text [] ys rest left h k = subst (λ (t : List ℕ). StartsWith t ys left) (sym h) k
StartsWith-append text (x ∷ xs) ys rest left h k = (h.0, StartsWith-append (behind_token (skip_blanks text)) xs ys rest left h.1 k)

-- blanks before tokens are free
from_skipped : (a b : List ℕ) (ts : List Token) (left : List ℕ) → skip_blanks a ≡ skip_blanks b → StartsWith b ts left
    → (m : List ℕ) × StartsWith a ts m × (skip_blanks m ≡ skip_blanks left)
from_skipped a b [] left e h = (a, refl, e ∙ ap skip_blanks h)
from_skipped a b (t ∷ ts) left e h =
    (left, subst (λ (x : List ℕ). (token_at x ≡ t) × StartsWith (behind_token x) ts left) (sym e) h, refl)

ran_then : (s t : State) (r : Result State Cause) (xs ys : List Token) → run s xs ≡ Ok t → run t ys ≡ r → run s (xs ++ ys) ≡ r
ran_then s t r xs ys h k = run-append s xs ys ∙ rw h k

pub passes_on : (text behind : List ℕ) (s next : State) (left : List ℕ) → Read text (skip_blanks behind) s → Passes s behind next left
    → Read text (skip_blanks left) next
passes_on text behind s next left r p =
    let j = from_skipped r.left behind p.done left r.skipped p.begins in
    record {
      done = r.done ++ p.done;
      left = j.0;
      begins = StartsWith-append text r.done p.done r.left j.0 r.begins j.1;
      skipped = j.2;
      ran = ran_then Start s (Ok next) r.done p.done r.ran p.ran;
      unended = p.unended r.unended;
    }

pub passes_none : (s : State) (text : List ℕ) → Passes s text s text
passes_none s text = record { done = []; begins = refl; ran = refl; unended = λ o. o }

pub passes_then : (s t u : State) (text rest left : List ℕ) → Passes s text t rest → Passes t rest u left → Passes s text u left
passes_then s t u text rest left p q =
    record {
      done = p.done ++ q.done;
      begins = StartsWith-append text p.done q.done rest left p.begins q.begins;
      ran = ran_then s t (Ok u) p.done q.done p.ran q.ran;
      unended = λ o. q.unended (p.unended o);
    }

pub passes_le : (s next : State) (text left : List ℕ) → Passes s text next left → length left ≤ length text
passes_le s next text left p = StartsWith-le text p.done left p.begins

-- ---- positions

pub passes_position : (owner : Owner) (ps : List Place) (p : Place) (text left : List ℕ) → StartsWith text (position p) left
    → Passes (BeforeX owner ps) text (AfterPosition owner (ps ++ p ∷ [])) left
passes_position owner ps p text left h = record { done = position p; begins = h; ran = refl; unended = λ _. tt }

pub more_none : (ps : List Place) (text : List ℕ) → More ps ps text text
more_none ps text = record { others = []; added = sym (append-nil ps); begins = refl }

pub more_one : (old new : List Place) (p : Place) (text rest left : List ℕ) → More old new text rest
    → StartsWith rest (commas position (p ∷ [])) left → More old (new ++ p ∷ []) text left
more_one old new p text rest left m h =
    let whole : StartsWith text (commas position m.others ++ commas position (p ∷ [])) left =
    StartsWith-append text (commas position m.others) (commas position (p ∷ [])) rest left m.begins h in
    record {
      others = m.others ++ p ∷ [];
      added = ap (λ x. x ++ p ∷ []) m.added ∙ append_assoc old m.others (p ∷ []);
      begins = subst (λ (ts : List Token). StartsWith text ts left) (sym (commas-snoc position m.others p)) whole;
    }

pub passes_others : (owner : Owner) (many : (ps : List Place) → after_comma owner ps ≡ Ok (BeforeX owner ps)) (old new : List Place)
    (text left : List ℕ) → More old new text left → Passes (AfterPosition owner old) text (AfterPosition owner new) left
passes_others owner many old new text left m =
    let ran : run (AfterPosition owner old) (commas position m.others ++ []) ≡ Ok (AfterPosition owner (old ++ m.others)) =
    run_commas owner many old m.others [] in
    record {
      done = commas position m.others;
      begins = m.begins;
      ran = ap (run (AfterPosition owner old)) (sym (append-nil (commas position m.others)))
          ∙ (ran ∙ ap (λ ps. Ok (AfterPosition owner ps)) (sym m.added));
      unended = λ _. tt;
    }

pub more_lt : (text left : List ℕ) (ts : List Token) → StartsWith text (Comma ∷ ts) left → length left < length text
more_lt text left ts h =
    omega (arith, StartsWith-le (behind_token (skip_blanks text)) ts left h.1, shorter (skip_blanks text) h.0, skip_blanks-le text)
  where
    shorter : (bs : List ℕ) → token_at bs ≡ Comma → length (behind_token bs) < length bs
    shorter [] e = absurd cc
    shorter (b ∷ bs) e = behind_token-lt (b ∷ bs) (omega arith)
