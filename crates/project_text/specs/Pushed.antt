-- The lines of a project's text as they are appended, each grouped from the right.
--
-- side_text c s            the name of a class behind a space, and behind a colon the subtype; nothing where there is no class
-- half_text h m            the numbers and the sign of a half-plane, each behind a space, with a comma at the end if more follow
-- class_text, rule_text, feature_text, dirty_text, error_text, cell_text     one line each; of a class that is not there, nothing
-- error_texts e            the line of an error, and behind it those of its cells
use Rattle.std.specs.Prelude.{ℕ, Bool, true, false, List, [], ◌∷◌, ◌++◌, codes, decimal, flat_map, Option, Some, None, if◌then◌else◌}
use Rattle.std.specs.Fmt.{signed_decimal}
use Rattle.plane_terms.specs.Rectangle.{Rectangle}
use Rattle.plane_terms.specs.HalfPlane.{HalfPlane}
use Rattle.plane_terms.specs.Cell.{Cell}
use Rattle.plane_terms.specs.declared.op.Op.{Op}
use Rattle.text_terms.specs.Wkt.{◌⧺◌}
use Rattle.wkt_terms.specs.Shapes.{shape_text}
use Rattle.rule_words.specs.Table.{word_of}
use Rattle.line_terms.specs.Forms.{kind_word}
use Rattle.topology_terms.specs.Feature.{Class, Feature}
use Rattle.topology_terms.specs.Entry.{Entry}
use Rattle.topology_terms.specs.Project.{Project, InForce}
use Rattle.topology_terms.specs.Lookups.{class_at}
use Rattle.text_out.specs.Fields.{rect_text, key_text}
use Rattle.project_terms.specs.Written.{op_word, mark_word, extent_word, sided, written_subtype}

abbrev pub side_text : Option Class → Option ℕ → List ℕ
side_text None s = []
side_text (Some c) s = 32 ∷ sided c.name s

abbrev pub sign_text : Op → Bool → List ℕ
sign_text op more = if more then op_word op ++ 44 ∷ [] else op_word op

abbrev pub half_text : HalfPlane → Bool → List ℕ
half_text h more = 32 ∷ signed_decimal h.a ⧺ 32 ∷ signed_decimal h.b ⧺ 32 ∷ signed_decimal h.c ⧺ 32 ∷ sign_text h.op more

-- are there any
abbrev pub some : Cell → Bool
some [] = false
some (h ∷ hs) = true

abbrev pub halves_text : Cell → List ℕ
halves_text [] = []
halves_text (h ∷ hs) = half_text h (some hs) ++ halves_text hs

abbrev pub class_text : Option Class → List ℕ
class_text None = []
class_text (Some c) = codes "class" ⧺ 32 ∷ c.name ⧺ 32 ∷ kind_word c.kind ⧺ 10 ∷ []

abbrev pub rule_text : List Class → InForce → List ℕ
rule_text cs q = codes "rule" ⧺ 32 ∷ decimal q.number ⧺ 32 ∷ word_of q.row.kind ⧺ side_text (class_at cs q.row.origin.class)
    q.row.origin.subtype ⧺ side_text (class_at cs q.row.dest.class) q.row.dest.subtype ⧺ 10 ∷ []

abbrev pub feature_text : List Class → Feature → List ℕ
feature_text cs f = codes "feature" ⧺ 32 ∷ decimal f.handle ⧺ side_text (class_at cs f.class) (written_subtype f.subtype) ⧺ 32 ∷ shape_text f.shape ⧺ 10 ∷ []

abbrev pub dirty_text : Rectangle → List ℕ
dirty_text r = codes "dirty" ⧺ rect_text r ⧺ 10 ∷ []

abbrev pub error_text : Entry → List ℕ
error_text e = mark_word e.marked ⧺ key_text e.rule e.subject e.other ⧺ 32 ∷ extent_word e.whole ⧺ rect_text e.frame ⧺ 10 ∷ []

abbrev pub cell_text : Cell → List ℕ
cell_text c = codes "cell" ⧺ halves_text c ⧺ 10 ∷ []

abbrev pub error_texts : Entry → List ℕ
error_texts e = error_text e ⧺ flat_map cell_text e.cells

abbrev pub head_text : ℕ → List ℕ
head_text next = codes "topology 2" ⧺ 10 ∷ codes "next" ⧺ 32 ∷ decimal next ⧺ 10 ∷ []

abbrev pub class_texts : List Class → List ℕ
class_texts cs = flat_map (λ (c : Class). class_text (Some c)) cs

-- all sections
abbrev pub sections_text : Project → List ℕ
sections_text p = head_text p.next ⧺ class_texts p.classes ⧺ flat_map (rule_text p.classes) p.rules ⧺ flat_map (feature_text p.classes) p.features
    ⧺ flat_map dirty_text p.dirt ⧺ flat_map error_texts p.entries ⧺ codes "end" ⧺ 10 ∷ []
