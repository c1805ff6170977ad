-- Worked rows of two editors: what is held, undone and done again, computed from the definitions.
use Rattle.std.proofs.Common.{◌≡◌, ℕ, ℤ, pos, arith, List, [], ◌∷◌, ◌++◌, Option, Some, None, refl}
use Rattle.std.specs.Prelude.{codes}
use Rattle.std.specs.Fmt.{digits}
use Rattle.std.specs.Option.{option_to_list}
use Rattle.plane_terms.specs.Point.{Place}
use Rattle.plane_terms.specs.Rectangle.{Rectangle, rect_of, rect_at}
use Rattle.plane_terms.specs.Dirt.{add_dirt}
use Rattle.plane_terms.specs.Shape.{Shape, envelope_of}
use Rattle.plane_terms.specs.declared.kind.Kind.TheVariants as shapes
use Rattle.topology_terms.specs.Feature.{Feature, feature_of, by_handle, feature_at, IsSetAt}
use Rattle.topology_terms.specs.Project.{Project}
use Rattle.topology_terms.specs.Session.{EditStep, Session}
use Rattle.line_terms.specs.Commands.{Begin, End, Add, Change, Retype, Undo, Redo}
use Rattle.sound_laws.proofs.FeatureLists.{handles}
use Rattle.sound_laws.proofs.Keyed as keyed
use Rattle.script_terms.specs.Refusal.{HeldBy, SessionOpen, SessionsFull, NoSession, NothingToUndo, NothingToRedo}
use Rattle.script_terms.specs.Reply.{Done, Number, Refused, FeatureList, DirtyList, reply_text}
use Rattle.script_terms.specs.State.{Desk}
use Rattle.script_terms.specs.Refusing.{refusal_of}
use Rattle.script_terms.specs.Answer.{IsDone}

abbrev place : ℤ → ℤ → Place
place x y = record { x = x; y = y }

abbrev point : ℤ → ℤ → Shape
point x y = record { kind = shapes.Point; parts = ((place x y ∷ []) ∷ []) ∷ [] }

abbrev spot : ℤ → ℤ → Rectangle
spot x y = rect_at (place x y)

abbrev well : ℕ → ℤ → ℤ → Feature
well h x y = feature_of h 1 0 (point x y)

abbrev ann : List ℕ
ann = codes "ann"

abbrev bob : List ℕ
bob = codes "bob"

-- features, next handle and dirt
abbrev wells : List Feature → ℕ → List Rectangle → Project
wells F next d = record {
  classes = record { name = codes "wells"; kind = shapes.Point } ∷ [];
  rules = [];
  features = F;
  next = next;
  dirt =
      d;
  entries = [];
}

abbrev session : List ℕ → List EditStep → List EditStep → Session
session name done undone = record { name = name; done = done; undone = undone }

abbrev step : ℕ → Option Feature → Option Feature → EditStep
step h before after = record { handle = h; before = before; after = after }

-- ---- both have begun, ann has added two wells, ended and begun again
abbrev d2 : List Rectangle
d2 = spot (pos 0) (pos 0) ∷ spot (pos 1) (pos 1) ∷ []

abbrev begun : Desk
begun = record { project = wells (well 1 (pos 0) (pos 0) ∷ well 2 (pos 1) (pos 1) ∷ []) 3 d2; sessions = session bob [] [] ∷ [] }

abbrev both : Desk
both = record {
  project = wells (well 1 (pos 0) (pos 0) ∷ well 2 (pos 1) (pos 1) ∷ []) 3 d2;
  sessions =
      session ann [] [] ∷ session bob [] [] ∷ [];
}

may_begin : refusal_of begun (Begin ann) ≡ None
may_begin = refl

-- ann comes before bob
ann_begins : IsDone begun (Begin ann) Done both
ann_begins = (refl, refl)

begin_again : refusal_of both (Begin bob) ≡ Some SessionOpen
begin_again = refl

-- ---- by ann change 2 POINT (2 2)
abbrev moved_step : EditStep
moved_step = step 2 (Some (well 2 (pos 1) (pos 1))) (Some (well 2 (pos 2) (pos 2)))

abbrev d3 : List Rectangle
d3 = spot (pos 0) (pos 0) ∷ spot (pos 1) (pos 1) ∷ spot (pos 2) (pos 2) ∷ []

abbrev moved : Desk
moved = record {
  project = wells (well 1 (pos 0) (pos 0) ∷ well 2 (pos 2) (pos 2) ∷ []) 3 d3;
  sessions =
      session ann (moved_step ∷ []) [] ∷ session bob [] [] ∷ [];
}

-- another feature of one handle, or none, between the same features
abbrev IsSplit : ℕ → List Feature → Option Feature → List Feature → Type 0
IsSplit h pre middle post = keyed.IsSplit by_handle handles h pre middle post

abbrev joined : List Feature → Option Feature → List Feature → List Feature
joined pre middle post = pre ++ (option_to_list middle ++ post)

set_between : (h : ℕ) (pre post : List Feature) (before after : Option Feature) → IsSplit h pre before post → IsSplit h pre after post
    → IsSetAt h after (joined pre before post) (joined pre after post)
unfolding feature_at
set_between h pre post before after s t = record {
  here = keyed.split_here by_handle handles h pre after post t;
  others = λ k n. keyed.set_other by_handle handles h pre post before after s t k n;
}

split_2 : (x : Feature) → x.handle ≡ 2 → (post : Option Feature) → IsSplit 2 (well 1 (pos 0) (pos 0) ∷ []) (Some x) []
split_2 x own post = record { before = (omega arith, tt); own = own; after = tt }

may_move : refusal_of both (Change ann 2 (point (pos 2) (pos 2))) ≡ None
unfolding feature_at
may_move = refl

ann_moves : IsDone both (Change ann 2 (point (pos 2) (pos 2))) Done moved
unfolding feature_at add_dirt envelope_of
ann_moves = (
  refl,
  (
    session ann [] [],
    record {
      project = record {
        edit = record {
          features = set_between 2 (well 1 (pos 0) (pos 0) ∷ []) [] (Some (well 2 (pos 1) (pos 1)))
              (Some (well 2 (pos 2) (pos 2))) (split_2 (well 2 (pos 1) (pos 1)) refl None) (split_2 (well 2 (pos 2) (pos 2)) refl None);
          dirt =
              refl;
          classes = refl;
          rules = refl;
          entries = refl;
        };
        next = refl;
      };
      session = record { there = refl; name = refl; sessions = refl };
    },
  ),
)

-- ---- by bob change 2 POINT (3 3)
held_by_ann : refusal_of moved (Change bob 2 (point (pos 3) (pos 3))) ≡ Some (HeldBy ann)
unfolding feature_at
held_by_ann = refl

held_text : reply_text (Refused (HeldBy ann)) ≡ codes "refused E20 ann" ++ 10 ∷ []
held_text = refl

-- ---- by bob add wells POINT (4 4)
abbrev third : EditStep
third = step 3 None (Some (well 3 (pos 4) (pos 4)))

abbrev d4 : List Rectangle
d4 = spot (pos 0) (pos 0) ∷ spot (pos 1) (pos 1) ∷ spot (pos 2) (pos 2) ∷ spot (pos 4) (pos 4) ∷ []

abbrev three : Desk
three = record {
  project = wells (well 1 (pos 0) (pos 0) ∷ well 2 (pos 2) (pos 2) ∷ well 3 (pos 4) (pos 4) ∷ []) 4 d4;
  sessions =
      session ann (moved_step ∷ []) [] ∷ session bob (third ∷ []) [] ∷ [];
}

may_add : refusal_of moved (Add bob (record { name = codes "wells"; subtype = None }) (point (pos 4) (pos 4))) ≡ None
may_add = refl

bob_adds : IsDone moved (Add bob (record { name = codes "wells"; subtype = None }) (point (pos 4) (pos 4))) (Number 3) three
unfolding feature_at add_dirt envelope_of
bob_adds = (
  3,
  refl,
  (
    session bob [] [],
    record {
      project = record {
        number = refl;
        absent = refl;
        next = refl;
        edit = record {
          features = set_between 3 (well 1 (pos 0) (pos 0) ∷ well 2 (pos 2) (pos 2) ∷ []) [] None
              (Some (well 3 (pos 4) (pos 4))) (record { before = (omega arith, (omega arith, tt)); own = tt; after = tt })
              (record { before = (omega arith, (omega arith, tt)); own = refl; after = tt });
          dirt = refl;
          classes = refl;
          rules =
              refl;
          entries = refl;
        };
      };
      session = record { there = refl; name = refl; sessions = refl };
    },
  ),
)

-- ---- by ann undo: bob's well stays. What ann held stays held until ann edits again, or ends
abbrev ann_back : Desk
ann_back = record {
  project = wells (well 1 (pos 0) (pos 0) ∷ well 2 (pos 1) (pos 1) ∷ well 3 (pos 4) (pos 4) ∷ []) 4
      (spot (pos 0) (pos 0) ∷ spot (pos 1) (pos 1) ∷ spot (pos 2) (pos 2) ∷ spot (pos 4) (pos 4) ∷ []);
  sessions = session ann [] (moved_step ∷ []) ∷ session bob (third ∷ []) [] ∷ [];
}

ann_undoes : IsDone three (Undo ann) Done ann_back
unfolding feature_at add_dirt envelope_of
ann_undoes = (
  refl,
  (
    moved_step,
    session ann (moved_step ∷ []) [],
    session ann [] (moved_step ∷ []),
    record { name = refl; done = refl; undone = refl },
    record {
      session = record { there = refl; name = refl; sessions = refl };
      project = record {
        edit = record {
          features = set_between 2 (well 1 (pos 0) (pos 0) ∷ []) (well 3 (pos 4) (pos 4) ∷ [])
              (Some (well 2 (pos 2) (pos 2))) (Some (well 2 (pos 1) (pos 1))) (record {
                before = (omega arith, tt);
                own = refl;
                after =
                    (omega arith, tt);
              }) (record { before = (omega arith, tt); own = refl; after = (omega arith, tt) });
          dirt = refl;
          classes =
              refl;
          rules = refl;
          entries = refl;
        };
        next = refl;
      };
    },
  ),
)

still_held : refusal_of ann_back (Change bob 2 (point (pos 3) (pos 3))) ≡ Some (HeldBy ann)
unfolding feature_at
still_held = refl

-- ---- by bob undo, once more, and by bob redo
abbrev bob_back : Desk
bob_back = record {
  project = wells (well 1 (pos 0) (pos 0) ∷ well 2 (pos 1) (pos 1) ∷ []) 4 (spot (pos 0) (pos 0) ∷ spot (pos 1) (pos 1) ∷ spot (pos 2)
      (pos 2) ∷ spot (pos 4) (pos 4) ∷ []);
  sessions = session ann [] (moved_step ∷ []) ∷ session bob [] (third ∷ []) ∷ [];
}

-- the next handle stays: the handle 3 is not given again
bob_undoes : IsDone ann_back (Undo bob) Done bob_back
unfolding feature_at add_dirt envelope_of
bob_undoes = (
  refl,
  (
    third,
    session bob (third ∷ []) [],
    session bob [] (third ∷ []),
    record { name = refl; done = refl; undone = refl },
    record {
      session = record { there = refl; name = refl; sessions = refl };
      project = record {
        edit = record {
          features = set_between 3 (well 1 (pos 0) (pos 0) ∷ well 2 (pos 1) (pos 1) ∷ []) []
              (Some (well 3 (pos 4) (pos 4))) None (record { before = (omega arith, (omega arith, tt)); own = refl; after = tt })
              (record { before = (omega arith, (omega arith, tt)); own = tt; after = tt });
          dirt = refl;
          classes = refl;
          rules = refl;
          entries =
              refl;
        };
        next = refl;
      };
    },
  ),
)

bob_has_none : refusal_of bob_back (Undo bob) ≡ Some NothingToUndo
bob_has_none = refl

bob_redoes : IsDone bob_back (Redo bob) Done ann_back
unfolding feature_at add_dirt envelope_of
bob_redoes = (
  refl,
  (
    third,
    session bob [] (third ∷ []),
    session bob (third ∷ []) [],
    record { name = refl; done = refl; undone = refl },
    record {
      session = record { there = refl; name = refl; sessions = refl };
      project = record {
        edit = record {
          features = set_between 3 (well 1 (pos 0) (pos 0) ∷ well 2 (pos 1) (pos 1) ∷ []) [] None
              (Some (well 3 (pos 4) (pos 4))) (record { before = (omega arith, (omega arith, tt)); own = tt; after = tt })
              (record { before = (omega arith, (omega arith, tt)); own = refl; after = tt });
          dirt = refl;
          classes = refl;
          rules = refl;
          entries =
              refl;
        };
        next = refl;
      };
    },
  ),
)

listed : reply_text (FeatureList ann_back.project) ≡ codes "feature 1 wells POINT (0 0)" ++ 10 ∷ codes "feature 2 wells POINT (1 1)" ++ 10 ∷
    codes "feature 3 wells POINT (4 4)" ++ 10 ∷ codes "total 3" ++ 10 ∷ []
unfolding digits
listed = refl

-- ---- one refusal each
no_zed : refusal_of both (Undo (codes "zed")) ≡ Some NoSession
no_zed = refl

ends_none : refusal_of both (End (codes "zed")) ≡ Some NoSession
ends_none = refl

nothing_to_redo : refusal_of both (Redo ann) ≡ Some NothingToRedo
nothing_to_redo = refl

abbrev named : List ℕ → Session
named name = session name [] []

abbrev sixteen : Desk
sixteen = record {
  project = wells [] 1 [];
  sessions = named (codes "a") ∷ named (codes "b") ∷ named (codes "c") ∷ named (codes "d") ∷ named
      (codes "e") ∷ named (codes "f") ∷ named (codes "g") ∷ named (codes "h") ∷ named (codes "i") ∷ named (codes "j") ∷ named (codes "k") ∷
      named (codes "l") ∷ named (codes "m") ∷ named (codes "n") ∷ named (codes "o") ∷ named (codes "p") ∷ [];
}

full : refusal_of sixteen (Begin (codes "q")) ≡ Some SessionsFull
full = refl

open_before_full : refusal_of sixteen (Begin (codes "a")) ≡ Some SessionOpen
open_before_full = refl

-- capitals come before small letters
capital : IsDone (record { project = wells [] 1 []; sessions = named (codes "ann") ∷ [] }) (Begin (codes "Zed")) Done
    (record { project = wells [] 1 []; sessions = named (codes "Zed") ∷ named (codes "ann") ∷ [] })
capital = (refl, refl)

-- ---- a retype is a step, and its undo brings the subtype back; the envelope becomes dirty each time
abbrev typed : Feature
typed = feature_of 1 1 3 (point (pos 0) (pos 0))

abbrev before_retype : Desk
before_retype = record { project = wells (well 1 (pos 0) (pos 0) ∷ []) 2 []; sessions = session ann [] [] ∷ [] }

abbrev after_retype : Desk
after_retype = record {
  project = wells (typed ∷ []) 2 (spot (pos 0) (pos 0) ∷ []);
  sessions = session ann (step 1 (Some (well 1 (pos 0) (pos 0))) (Some typed) ∷ []) [] ∷ [];
}

may_retype : refusal_of before_retype (Retype ann 1 3) ≡ None
unfolding feature_at
may_retype = refl

retypes : IsDone before_retype (Retype ann 1 3) Done after_retype
unfolding feature_at add_dirt envelope_of
retypes = (
  refl,
  (
    session ann [] [],
    record {
      project = record {
        edit = record {
          features = set_between 1 [] [] (Some (well 1 (pos 0) (pos 0))) (Some typed)
              (record { before = tt; own = refl; after = tt }) (record { before = tt; own = refl; after = tt });
          dirt = refl;
          classes = refl;
          rules = refl;
          entries = refl;
        };
        next = refl;
      };
      session = record { there = refl; name = refl; sessions = refl };
    },
  ),
)

typed_listed : reply_text (FeatureList after_retype.project) ≡ codes "feature 1 wells:3 POINT (0 0)" ++ 10 ∷ codes "total 1" ++ 10 ∷ []
unfolding digits
typed_listed = refl

-- ---- a deleted square comes back: its envelope is dirty
abbrev square : ℤ → ℤ → Shape
square lo hi = record { kind = shapes.Polygon; parts = ((place lo lo ∷ place hi lo ∷ place hi hi ∷ place lo hi ∷ []) ∷ []) ∷ [] }

abbrev lot : ℕ → ℤ → ℤ → Feature
lot h lo hi = feature_of h 1 0 (square lo hi)

abbrev lots : List Feature → List Rectangle → Project
lots F d = record {
  classes = record { name = codes "lots"; kind = shapes.Polygon } ∷ [];
  rules = [];
  features = F;
  next = 3;
  dirt =
      d;
  entries = [];
}

abbrev gone : EditStep
gone = step 1 (Some (lot 1 (pos 0) (pos 10))) None

abbrev deleted : Desk
deleted = record { project = lots (lot 2 (pos 5) (pos 15) ∷ []) []; sessions = session ann (gone ∷ []) [] ∷ [] }

abbrev returned : Desk
returned = record {
  project = lots (lot 1 (pos 0) (pos 10) ∷ lot 2 (pos 5) (pos 15) ∷ []) (rect_of (pos 0) (pos 0) (pos 10) (pos 10) ∷ []);
  sessions = session ann [] (gone ∷ []) ∷ [];
}

returns : IsDone deleted (Undo ann) Done returned
unfolding feature_at add_dirt envelope_of
returns = (
  refl,
  (
    gone,
    session ann (gone ∷ []) [],
    session ann [] (gone ∷ []),
    record { name = refl; done = refl; undone = refl },
    record {
      session = record { there = refl; name = refl; sessions = refl };
      project = record {
        edit = record {
          features = set_between 1 [] (lot 2 (pos 5) (pos 15) ∷ []) None (Some (lot 1 (pos 0) (pos 10)))
              (record { before = tt; own = tt; after = (omega arith, tt) }) (record { before = tt; own = refl; after = (omega arith, tt) });
          dirt = refl;
          classes = refl;
          rules = refl;
          entries = refl;
        };
        next = refl;
      };
    },
  ),
)

dirty_again : reply_text (DirtyList returned.project) ≡ codes "dirty 0 0 10 10" ++ 10 ∷ codes "total 1" ++ 10 ∷ []
unfolding digits
dirty_again = refl
