-- The text of a project: one line an item, each with one LF at its end, its fields with one space between them.
--
-- topology 2
-- next N
-- class NAME KIND                           by number
-- rule R WORD SIDE [SIDE]                   by number; SIDE is NAME, or NAME:S where it binds the subtype S
-- feature H OWN WKT                         by handle; OWN is NAME of the subtype 0, NAME:S of another subtype S
-- dirty X0 Y0 X1 Y1                         in the order of the list
-- MARK R SUBJECT OTHER EXTENT X0 Y0 X1 Y1   by key; MARK is `error` or `exception`, EXTENT `cells` or `whole`
-- cell A B C OP, ..                         behind an error of cells, one line a cell
-- end
--
-- side_field cs A, own_field cs f     SIDE of the side A, OWN of the feature f; none where the class is not there
-- title n           the line that names the format n
-- next_line, class_line, rule_line, feature_line, dirty_line, error_line, cell_line, last_line     the fields of each line
-- error_lines e     the line of an error, and behind it those of its cells
-- lines_of n p      the lines of a project in the format n, in order
-- line_text fs      the bytes of a line
-- text_of n p       all of the text in the format n. The format 1 has another title, and is for projects that have no subtype
-- project_text p    all of the text, as it is written: in format 2. Each project has one
--
-- Numbers are plain decimals, `-` before a negative one; a shape is in its written form. Source: own.
use Rattle.std.specs.Prelude.{ℕ, ◌==◌, Bool, List, [], ◌∷◌, ◌++◌, map, flat_map, codes, decimal, Option, Some, None, if◌then◌else◌}
use Rattle.std.specs.Fmt.{signed_decimal}
use Rattle.plane_terms.specs.Rectangle.{Rectangle}
use Rattle.plane_terms.specs.Cell.{Cell}
use Rattle.plane_terms.specs.declared.op.Op.{Op}
use Rattle.plane_terms.specs.declared.op.Op.TheVariants.{Over, AtLeast, Zero}
use Rattle.wkt_terms.specs.Shapes.{shape_text}
use Rattle.rule_words.specs.Table.{word_of}
use Rattle.line_terms.specs.Forms.{kind_word}
use Rattle.topology_terms.specs.Feature.{Class, Feature, Side}
use Rattle.topology_terms.specs.Entry.{Entry}
use Rattle.topology_terms.specs.Project.{Project, InForce}
use Rattle.topology_terms.specs.Lookups.{class_at}
use Rattle.project_terms.specs.Lines.{joined}

-- a name, and behind a colon the subtype, where there is one
abbrev pub sided : List ℕ → Option ℕ → List ℕ
sided name None = name
sided name (Some s) = name ++ 58 ∷ decimal s

abbrev pub sided_in : Option Class → Option ℕ → List (List ℕ)
sided_in None s = []
sided_in (Some c) s = sided c.name s ∷ []

abbrev pub side_field : List Class → Side → List (List ℕ)
side_field cs A = sided_in (class_at cs A.class) A.subtype

-- a subtype but 0
abbrev pub written_subtype : ℕ → Option ℕ
written_subtype t = if t == 0 then None else Some t

abbrev pub own_field : List Class → Feature → List (List ℕ)
own_field cs f = sided_in (class_at cs f.class) (written_subtype f.subtype)

abbrev pub op_word : Op → List ℕ
op_word Over = codes ">"
op_word AtLeast = codes ">="
op_word Zero = codes "="

abbrev pub mark_word : Bool → List ℕ
mark_word marked = if marked then codes "exception" else codes "error"

abbrev pub extent_word : Bool → List ℕ
extent_word whole = if whole then codes "whole" else codes "cells"

abbrev pub rect_fields : Rectangle → List (List ℕ)
rect_fields r = signed_decimal r.x0 ∷ signed_decimal r.y0 ∷ signed_decimal r.x1 ∷ signed_decimal r.y1 ∷ []

-- the sign of each half-plane but the last has a comma behind it
abbrev pub cell_fields : Cell → List (List ℕ)
cell_fields [] = []
cell_fields (h ∷ []) = signed_decimal h.a ∷ signed_decimal h.b ∷ signed_decimal h.c ∷ op_word h.op ∷ []
cell_fields (h ∷ g ∷ hs) = signed_decimal h.a ∷ signed_decimal h.b ∷ signed_decimal h.c ∷ (op_word h.op ++ 44 ∷ []) ∷ cell_fields (g ∷ hs)

abbrev pub title : ℕ → List (List ℕ)
title format = codes "topology" ∷ decimal format ∷ []

abbrev pub next_line : ℕ → List (List ℕ)
next_line n = codes "next" ∷ decimal n ∷ []

abbrev pub class_line : Class → List (List ℕ)
class_line c = codes "class" ∷ c.name ∷ kind_word c.kind ∷ []

abbrev pub rule_line : List Class → InForce → List (List ℕ)
rule_line cs q = codes "rule" ∷ decimal q.number ∷ word_of q.row.kind ∷ (side_field cs q.row.origin ++ side_field cs q.row.dest)

abbrev pub feature_line : List Class → Feature → List (List ℕ)
feature_line cs f = codes "feature" ∷ decimal f.handle ∷ (own_field cs f ++ shape_text f.shape ∷ [])

abbrev pub dirty_line : Rectangle → List (List ℕ)
dirty_line r = codes "dirty" ∷ rect_fields r

abbrev pub error_line : Entry → List (List ℕ)
error_line e = mark_word e.marked ∷ decimal e.rule ∷ decimal e.subject ∷ decimal e.other ∷ extent_word e.whole ∷ rect_fields e.frame

abbrev pub cell_line : Cell → List (List ℕ)
cell_line c = codes "cell" ∷ cell_fields c

abbrev pub last_line : List (List ℕ)
last_line = codes "end" ∷ []

abbrev pub error_lines : Entry → List (List (List ℕ))
error_lines e = error_line e ∷ map cell_line e.cells

abbrev pub lines_of : ℕ → Project → List (List (List ℕ))
lines_of format p = title format ∷ next_line p.next ∷ map class_line p.classes ++ (map (rule_line p.classes) p.rules ++
    (map (feature_line p.classes) p.features
    ++ (map dirty_line p.dirt ++ (flat_map error_lines p.entries ++ last_line ∷ []))))

abbrev pub line_text : List (List ℕ) → List ℕ
line_text fs = joined fs ++ 10 ∷ []

abbrev pub text_of : ℕ → Project → List ℕ
text_of format p = flat_map line_text (lines_of format p)

abbrev pub project_text : Project → List ℕ
project_text p = text_of 2 p
