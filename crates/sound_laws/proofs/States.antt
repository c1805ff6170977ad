-- The changing calls keep what the types of the parts keep.
use Rattle.std.proofs.Common.{◌≡◌, ◌≢◌, inl, inr, ℕ, refl, sym, ◌∙◌, List, [], ◌∷◌, Option, Some, None}
use Rattle.plane_terms.specs.Point.{Point}
use Rattle.plane_terms.specs.Rectangle.{IsRectangle, Rectangle, IsProper}
use Rattle.plane_terms.specs.Cell.{Cell, InCells, HavePoints}
use Rattle.topology_terms.specs.Feature.{Feature, feature_at, env}
use Rattle.topology_terms.specs.Broken.{Row}
use Rattle.topology_terms.specs.Meaning.{Meaning}
use Rattle.topology_terms.specs.Entry.{Entry, entry_at}
use Rattle.topology_terms.specs.Project.{rule_at, Project, IsProject}
use Rattle.topology_terms.specs.Changes.{IsEdit, IsRuleAdded, IsFresh, IsValidated}
use Rattle.sound_laws.proofs.Planes.{rect_from_point}
use Rattle.sound_laws.proofs.Dirts.{bool_cases}
use Rattle.sound_laws.proofs.Edits.{same_or_not}
use Rattle.sound_laws.proofs.RuleChanges.{no_entry}
use Rattle.plane_terms.proofs.Truths.{there_or_not}

-- cells that have points, and are not none, hold some point
pub some_point : (cs : List Cell) → cs ≢ [] → HavePoints cs → (p : Point) × InCells cs p
some_point [] n h = absurd (n refl)
some_point (c ∷ cs) n h = (h.0.0, inl h.0.1)

pub edit_state : (M : Meaning) (h : ℕ) (after : Option Feature) (old new : Project) → IsProject M old → IsEdit h after old new
    → ((f : Feature) → after ≡ Some f → IsRectangle (env f))
    → ((n : ℕ) (row : Row) → rule_at new.rules n ≡ Some row → M.Fits row new.features)
    → IsProject M new
edit_state M h after old new v i t fits = record {
  fits = fits;
  made = record {
    envelopes = λ a f k. elim (same_or_not a h) [
      | inl e ↦ t f (sym i.features.here ∙ (rw e at k))
      | inr e ↦ v.made.envelopes a f (sym (i.features.others a e) ∙ k)
    ];
    frames = λ r a b e k. v.made.frames r a b e (rw i.entries at k);
    bare = λ r a b e k w. v.made.bare r a b e (rw i.entries at k) w;
    ruled = λ r a b e k. rw i.rules (v.made.ruled r a b e (rw i.entries at k));
  };
}

fresh_rect : (M : Meaning) (F : List Feature) (row : Row) (f : Feature) (a b : ℕ) (e : Entry) → IsProper (env f) → IsFresh M F row f a b e
    → IsProper e.frame
fresh_rect M F row f a b e v i = elim (bool_cases e.whole) [
  | inl t ↦ rw (i.envelope t) v
  | inr t ↦
      let y = some_point e.cells (i.some t) i.have_points in
      rect_from_point e.frame y.0 ((i.frame t).holds y.0 y.1)
]

pub validated_state : (M : Meaning) (w : Rectangle) (old new : Project) → IsProject M old → IsValidated M w old new
    → IsProject M new
validated_state M w old new v i =
    let unruled : (r : ℕ) → rule_at old.rules r ≡ None → (a b : ℕ) → entry_at new.entries r a b ≡ None = λ r n a b. elim (i.each a) [
      | inl y ↦ y.1.idle r n b
      | inr y ↦ y.1 r b ∙ never r a b n
    ] in
    record {
      fits = λ n row e. rw i.features (v.fits n row (rw i.rules at e));
      made = record {
        envelopes = λ a f k. v.made.envelopes a f (rw i.features at k);
        frames = λ r a b e k. elim (i.each a) [
          | inr y ↦ v.made.frames r a b e (sym (y.1 r b) ∙ k)
          | inl y ↦ elim (there_or_not (rule_at old.rules r)) [
            | inr n ↦ let l = unruled r n a b in absurd cc
            | inl q ↦ elim (there_or_not (feature_at old.features a)) [
              | inr n ↦ let l = y.1.dead n r b in absurd cc
              | inl z ↦ fresh_rect M old.features q.0 z.0 a b e (v.made.envelopes a z.0 z.1).proper
                  ((y.1.live z.0 z.1 r q.0 q.1).fresh b e k)
            ]
          ]
        ];
        bare = λ r a b e k t. elim (i.each a) [
          | inr y ↦ v.made.bare r a b e (sym (y.1 r b) ∙ k) t
          | inl y ↦ elim (there_or_not (rule_at old.rules r)) [
            | inr n ↦ let l = unruled r n a b in absurd cc
            | inl q ↦ elim (there_or_not (feature_at old.features a)) [
              | inr n ↦ let l = y.1.dead n r b in absurd cc
              | inl z ↦ (let j = (y.1.live z.0 z.1 r q.0 q.1).fresh b e k in ((j.broken_whole t).0, j.bare t))
            ]
          ]
        ];
        ruled = λ r a b e k. elim (there_or_not (rule_at old.rules r)) [
          | inr n ↦ let l = unruled r n a b in absurd cc
          | inl q ↦ (q.0, rw i.rules q.1)
        ];
      };
    }
  where
    never : (r a b : ℕ) → rule_at old.rules r ≡ None → entry_at old.entries r a b ≡ None
    never r a b n = elim (there_or_not (entry_at old.entries r a b)) [
      | inr k ↦ k
      | inl e ↦ absurd (no_entry M old v r a b n e.0 e.1)
    ]

pub add_rule_state : (M : Meaning) (n : ℕ) (row : Row) (old new : Project) → IsProject M old → IsRuleAdded n row old new
    → M.Fits row old.features → IsProject M new
add_rule_state M n row old new v i fits = record {
  fits = λ k q e. elim (same_or_not k n) [
    | inl t ↦
        let here = i.here in
        let there : rule_at new.rules n ≡ Some q = rw t at e in
        let same : row ≡ q = cc in
        rw (i.features, ← same) fits
    | inr t ↦ rw i.features (v.fits k q (sym (i.others k t) ∙ e))
  ];
  made = record {
    envelopes = λ a f k. v.made.envelopes a f (rw i.features at k);
    frames = λ r a b e k. v.made.frames r a b e (rw i.entries at k);
    bare = λ r a b e k w. v.made.bare r a b e (rw i.entries at k) w;
    ruled = λ r a b e k. elim (same_or_not r n) [
      | inl t ↦ (row, rw t i.here)
      | inr t ↦ rw (i.others r t) (v.made.ruled r a b e (rw i.entries at k))
    ];
  };
}
