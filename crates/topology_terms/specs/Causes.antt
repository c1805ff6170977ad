-- Why each change of a project is refused: the first cause that there is, or none.
--
-- when b c, first_of cs    the cause where b is true; the first of a list that there is
-- class_cause cs name      why a class of this name is not added: the name is taken; there are 64
-- add_cause cs next n k    why a feature of the class n and a shape of the kind k is not added: no such class; another kind; the next
--                          handle is the last
-- change_cause F h k       why the feature h does not get a shape of the kind k: no such feature; another kind
-- delete_cause F h         why the feature h is not taken away: no such feature
-- fit_cause cs row         why the classes do not serve the row: one is missing; they do not fit
-- rule_cause p row         why the row is not put in force: that; it is in force already; there are 256 rules
-- drop_cause rs n          why the rule n is not dropped: no such rule
-- mark_cause es r a b on   why the mark of the entry of this key is not set on, or off: no such error; it is so already
-- is_kind o k              there is a kind, and it is k
-- is_missing cs row        the class of the subjects is not there, or the second one where the rule takes one
-- are_apart A B            no feature can be on both sides: they are of two classes, or of two subtypes of one (other_subtype)
-- same_side A B            the two sides are equal (same_subtype: so is what they bind)
-- is_fit cs row            the classes have the kinds that the rule takes, and the sides are apart; where it takes one, no second is given
-- is_row q r, is_there rs row      the two rows are equal; a rule in force has this row
-- Tells told cause         what a call tells: the cause that there is, or out of memory, of which nothing is said
--
-- Source: editing and validation of a geodatabase topology (Esri); causes and their order own.
use Rattle.std.specs.Prelude.{◌≡◌, ℕ, ◌==◌, Bool, true, false, ◌&&◌, ◌||◌, not, List, [], ◌∷◌, length, Option, Some, None, is_some, is_none, bytes_eq, if◌then◌else◌}
use Rattle.std.specs.List.{list_any}
use Rattle.plane_terms.specs.declared.kind.Kind.{Kind}
use Rattle.plane_terms.specs.declared.kind.Kind.TheVariants as kind
use Rattle.rule_words.specs.Table.{word_of, origin_of, dest_of}
use Rattle.topology_terms.specs.Feature.{Class, Feature, Side, no_side, feature_at}
use Rattle.topology_terms.specs.Broken.{Row}
use Rattle.topology_terms.specs.Entry.{Entry, entry_at}
use Rattle.topology_terms.specs.Project.{Project, InForce, rule_at}
use Rattle.topology_terms.specs.Lookups.{number_from, kind_of_class, kind_at}
use Rattle.topology_terms.specs.declared.cause.Cause.{Cause}
use Rattle.topology_terms.specs.declared.cause.Cause.TheVariants.{ClassTaken, ClassesFull, NoClass, Unfit, RuleThere, RulesFull, NoRule, WrongKind, NoFeature, HandlesSpent, NoError, AlreadySo}

abbrev pub when : {A : Type 0} → Bool → A → Option A
when b c = if b then Some c else None

abbrev pub first_of : {A : Type 0} → List (Option A) → Option A
first_of [] = None
first_of (None ∷ cs) = first_of cs
first_of (Some c ∷ cs) = Some c

abbrev pub same_kind : Kind → Kind → Bool
same_kind kind.Point kind.Point = true
same_kind kind.Line kind.Line = true
same_kind kind.Polygon kind.Polygon = true
same_kind k l = false

abbrev pub is_kind : Option Kind → Kind → Bool
is_kind None k = false
is_kind (Some l) k = same_kind l k

abbrev pub class_cause : List Class → List ℕ → Option Cause
class_cause cs name = first_of (when (is_some (number_from 1 cs name)) ClassTaken ∷ when (length cs == 64) ClassesFull ∷ [])

abbrev pub add_cause : List Class → ℕ → ℕ → Kind → Option Cause
add_cause cs next n k = first_of (when (is_none (kind_of_class cs n)) NoClass ∷ when (not (is_kind (kind_of_class cs n) k)) WrongKind ∷ when
    (next == 4294967295) HandlesSpent ∷ [])

abbrev pub change_cause : List Feature → ℕ → Kind → Option Cause
change_cause F h k = first_of (when (is_none (feature_at F h)) NoFeature ∷ when (not (is_kind (kind_at F h) k)) WrongKind ∷ [])

abbrev pub delete_cause : List Feature → ℕ → Option Cause
delete_cause F h = when (is_none (feature_at F h)) NoFeature

-- by the kind of the second class, where the rule takes one
abbrev pub lacks_dest : List Class → Row → Option Kind → Bool
lacks_dest cs row None = false
lacks_dest cs row (Some k) = is_none (kind_of_class cs row.dest.class)

-- two bound subtypes that differ
abbrev pub other_subtype : Option ℕ → Option ℕ → Bool
other_subtype None t = false
other_subtype (Some s) None = false
other_subtype (Some s) (Some t) = not (s == t)

abbrev pub are_apart : Side → Side → Bool
are_apart A B = not (A.class == B.class) || other_subtype A.subtype B.subtype

abbrev pub same_subtype : Option ℕ → Option ℕ → Bool
same_subtype None None = true
same_subtype (Some s) (Some t) = s == t
same_subtype s t = false

abbrev pub same_side : Side → Side → Bool
same_side A B = (A.class == B.class) && same_subtype A.subtype B.subtype

abbrev pub fits_dest : List Class → Row → Option Kind → Bool
fits_dest cs row None = same_side row.dest no_side
fits_dest cs row (Some k) = is_kind (kind_of_class cs row.dest.class) k && are_apart row.dest row.origin

abbrev pub is_missing : List Class → Row → Bool
is_missing cs row = is_none (kind_of_class cs row.origin.class) || lacks_dest cs row (dest_of row.kind)

abbrev pub is_fit : List Class → Row → Bool
is_fit cs row = is_kind (kind_of_class cs row.origin.class) (origin_of row.kind) && fits_dest cs row (dest_of row.kind)

-- a rule's word tells its kind
abbrev pub is_row : Row → Row → Bool
is_row q r = bytes_eq (word_of q.kind) (word_of r.kind) && (same_side q.origin r.origin && same_side q.dest r.dest)

abbrev pub is_there : List InForce → Row → Bool
is_there rs row = list_any (λ (q : InForce). is_row q.row row) rs

abbrev pub fit_cause : List Class → Row → Option Cause
fit_cause cs row = first_of (when (is_missing cs row) NoClass ∷ when (not (is_fit cs row)) Unfit ∷ [])

abbrev pub rule_cause : Project → Row → Option Cause
rule_cause p row = first_of (fit_cause p.classes row ∷ when (is_there p.rules row) RuleThere ∷ when (length p.rules == 256) RulesFull ∷ [])

abbrev pub drop_cause : List InForce → ℕ → Option Cause
drop_cause rs n = when (is_none (rule_at rs n)) NoRule

-- there is an entry, and its mark is on, or off
abbrev pub is_so : Option Entry → Bool → Bool
is_so None on = false
is_so (Some e) on = if on then e.marked else not e.marked

abbrev pub mark_cause : List Entry → ℕ → ℕ → ℕ → Bool → Option Cause
mark_cause es r a b on = first_of (when (is_none (entry_at es r a b)) NoError ∷ when (is_so (entry_at es r a b) on) AlreadySo ∷ [])

abbrev pub Tells : Option Cause → Option Cause → Type 0
Tells None cause = Unit {0}
Tells (Some told) cause = cause ≡ Some told
