-- Records of a table with commas, and the writer that takes them.
--
-- line_of fs           fields with commas between, and a line feed behind
-- IsPlain f            no byte of the field calls for quotes
-- IsPlainRow fs        two fields or more, each of them plain: its record is its line
-- header_fields        the names of the fields of a report
-- key_fields, frame_fields     the first four fields of an error, and its last four
-- IsReady w            the writer is set up as by default, with a line feed behind each record, and stands between records
use Rattle.std.specs.Prelude.{◌≡◌, ◌≤◌, ℕ, false, List, [], ◌∷◌, ◌++◌, length, codes, decimal}
use Rattle.std.specs.List.{join_with_byte}
use Rattle.std.specs.Fmt.{signed_decimal}
use Rattle.plane_terms.specs.Lists.{Every}
use Rattle.plane_terms.specs.Rectangle.{Rectangle}
use Rattle.csv.specs.Writing.{default_writer, needs_quotes, fields_written, has_written, writer_setup}
use Rattle.csv.specs.declared.writer.Writer.{Writer}
use Rattle.topology_terms.specs.Entry.{Entry}
use Rattle.topology_terms.specs.Project.{InForce}
use Rattle.script_terms.specs.Report.{rule_word}

abbrev pub line_of : List (List ℕ) → List ℕ
line_of fields = join_with_byte 44 fields ++ 10 ∷ []

abbrev pub IsPlain : List ℕ → Type 0
IsPlain field = needs_quotes default_writer field ≡ false

pub record IsPlainRow (fields : List (List ℕ)) : Type 0 where
  pub some : 2 ≤ length fields
  pub each : Every IsPlain fields

abbrev pub header_fields : List (List ℕ)
header_fields =
    codes "rule" ∷ codes "kind" ∷ codes "subject" ∷ codes "other" ∷ codes "extent" ∷ codes "mark" ∷ codes "x0" ∷ codes "y0" ∷ codes "x1" ∷
    codes "y1" ∷ []

abbrev pub key_fields : List InForce → Entry → List (List ℕ)
key_fields rules e = decimal e.rule ∷ rule_word rules e.rule ∷ decimal e.subject ∷ decimal e.other ∷ []

abbrev pub frame_fields : Rectangle → List (List ℕ)
frame_fields r = signed_decimal r.x0 ∷ signed_decimal r.y0 ∷ signed_decimal r.x1 ∷ signed_decimal r.y1 ∷ []

pub record IsReady {W : Type 0} (w : Writer W) : Type 0 where
  pub fields : fields_written w ≡ 0
  pub wrote : has_written w ≡ false
  pub setup : writer_setup w ≡ default_writer
