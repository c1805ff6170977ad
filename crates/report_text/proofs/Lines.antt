-- A record of plain fields is its line, and each error's fields are plain.
use Rattle.std.proofs.Common.{◌≡◌, ℕ, ◌+◌, arith, List, [], ◌∷◌, ◌++◌, refl, ap, sym, subst, ◌∙◌, append-nil, append_assoc, take, Option, Some, None}
use Rattle.std.specs.Prelude.{flat_map, slice_get}
use Rattle.std.specs.Io.KnownBytes.{Appends}
use Rattle.std.specs.List.{join_with_byte}
use Rattle.plane_terms.specs.Lists.{Every}
use Rattle.plane_terms.specs.Rectangle.{Rectangle}
use Rattle.csv.specs.Writing.{default_writer, field_text, fields_text, is_blank, row_text}
use Rattle.csv.proofs.WriteFacts.{appends-more}
use Rattle.topology_terms.specs.Entry.{Entry}
use Rattle.topology_terms.specs.Project.{InForce, rule_at}
use Rattle.script_terms.specs.Report.{report_fields}
use Rattle.text_out.proofs.Pushing.{said_more}
use Rattle.report_text.specs.Tables.{IsPlain, IsPlainRow, line_of, header_fields, frame_fields}
use Rattle.report_text.proofs.Plain.{plain_decimal, plain_signed, plain_word, plain_extent, plain_mark}

plain_text : (f : List ℕ) → IsPlain f → field_text default_writer f ≡ f
plain_text f h = rw h refl

-- a field, and those behind it
behind : (f : List ℕ) (fs : List (List ℕ)) → Every IsPlain fs → f ++ fields_text default_writer fs ≡ join_with_byte 44 (f ∷ fs)
unfolding fields_text
behind f [] h = append-nil f
behind f (g ∷ gs) h = ap (λ t. f ++ 44 ∷ t) (ap (λ t. t ++ fields_text default_writer gs) (plain_text g h.0) ∙ behind g gs h.1)

pub row_line : (fs : List (List ℕ)) → IsPlainRow fs → row_text default_writer fs ≡ line_of fs
unfolding is_blank
row_line [] h = absurd (let s = h.some in omega arith)
row_line (x ∷ []) h = absurd (let s = h.some in omega arith)
row_line (x ∷ y ∷ fs) h = ap (λ t. t ++ 10 ∷ []) (ap (λ t. t ++ fields_text default_writer (y ∷ fs)) (plain_text x h.each.0)
    ∙ behind x (y ∷ fs) h.each.1)

pub plain_header : IsPlainRow header_fields
plain_header = record { some = omega arith; each = (refl, (refl, (refl, (refl, (refl, (refl, (refl, (refl, (refl, (refl, tt)))))))))) }

plain_frame : (r : Rectangle) → Every IsPlain (frame_fields r)
plain_frame r = (plain_signed r.x0, (plain_signed r.y0, (plain_signed r.x1, (plain_signed r.y1, tt))))

pub plain_report : (rules : List InForce) (e : Entry) → IsPlainRow (report_fields rules e)
plain_report rules e = record {
  some = omega arith;
  each = (
    plain_decimal e.rule,
    (
      plain_word (rule_at rules e.rule),
      (
        plain_decimal e.subject,
        (
          plain_decimal e.other,
          (plain_extent e.whole, (plain_mark e.marked, plain_frame e.frame)),
        ),
      ),
    ),
  );
}

-- ---- what is written, a record more at a time
pub none_more : (a : Option (List ℕ)) → Appends a a []
none_more None = tt
none_more (Some xs) = sym (append-nil xs)

pub lines_more : {X : Type 0} (f : X → List ℕ) (xs : List X) (i : ℕ) (x : X) (start old new : Option (List ℕ)) → slice_get xs i ≡ Some x
    → Appends start old (flat_map f (take i xs)) → Appends old new (f x) → Appends start new (flat_map f (take (i + 1) xs))
lines_more f xs i x start old new at before more =
    let lines = flat_map f (take i xs) in
    subst (λ t. Appends start new t) (said_more f xs i x [] lines (lines ++ f x) at refl refl)
    (appends-more start old new lines (f x) before more)

-- a front of the whole is written, and the rest is to come
pub record IsWritten (start now : Option (List ℕ)) (whole rest : List ℕ) : Type 0 where
  pub front : List ℕ
  pub written : Appends start now front
  pub is : whole ≡ front ++ rest

pub none_written : (now : Option (List ℕ)) (whole : List ℕ) → IsWritten now now whole whole
none_written now whole = record { front = []; written = none_more now; is = refl }

pub more_written : (start now new : Option (List ℕ)) (whole text rest : List ℕ) → IsWritten start now whole (text ++ rest)
    → Appends now new text → IsWritten start new whole rest
more_written start now new whole text rest h more = record {
  front = h.front ++ text;
  written = appends-more start now new h.front text h.written more;
  is = h.is ∙ sym (append_assoc h.front text rest);
}

pub all_written : (start now : Option (List ℕ)) (whole : List ℕ) → IsWritten start now whole [] → Appends start now whole
all_written start now whole h = subst (λ t. Appends start now t) (sym (h.is ∙ append-nil h.front)) h.written
