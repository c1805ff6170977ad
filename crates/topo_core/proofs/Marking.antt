-- A mark that is set keeps what every topology keeps, and what it keeps of the rules' meaning.
use Rattle.std.proofs.Common.{◌≡◌, ℕ, Bool, refl, sym, ◌∙◌, List, Option, Some, None}
use Rattle.plane_terms.specs.Rectangle.{Rectangle}
use Rattle.topology_terms.specs.Feature.{Feature}
use Rattle.topology_terms.specs.Meaning.{Meaning, Finding, finding_at}
use Rattle.topology_terms.specs.Entry.{Entry, entry_at}
use Rattle.topology_terms.specs.Entry as entries
use Rattle.topology_terms.specs.Project.{Project, InForce}
use Rattle.topology_terms.specs.Changes.{IsUnchanged, SameButMark, IsMarking, IsMarked}
use Rattle.topology_terms.specs.Settled.{AreAlike, IsSettledUnder}
use Rattle.error_store.specs.Marking.{IsMarkSet}
use Rattle.feature_store.specs.Stored.{Stored}
use Rattle.topo_core.specs.Topologies.{IsTopology, project_of}

-- the entry that stood at the key of one that stands
stood : (o : Option Entry) (e : Entry) → SameButMark o (Some e) → (d : Entry) × (o ≡ Some d) × IsUnchanged d e
stood None e h = absurd h
stood (Some d) e h = (d, refl, h)

pub marked : (r a b : ℕ) (on : Bool) (s : Stored) (rules : List InForce) (d : List Rectangle) (es fs : List Entry)
    → IsMarkSet r a b on es fs → IsMarked r a b on (project_of s rules d es) (project_of s rules d fs)
marked r a b on s rules d es fs m = record {
  marking = record { classes = refl; next = refl; rules = refl; features = refl; dirt = refl; entries = m.entries };
  here = m.here;
  others = m.others;
}

pub mark_keeps : (old new : Project) → IsTopology old → IsMarking old new → entries.IsAscending new.entries → IsTopology new
mark_keeps old new t i u = record {
  store = rw (i.classes, i.features, i.next) t.store;
  rules = rw i.rules t.rules;
  few = rw i.rules t.few;
  numbers = rw i.rules t.numbers;
  fit = rw (i.rules, i.classes) t.fit;
  apart = rw i.rules t.apart;
  order = u;
  made = record {
    envelopes = rw i.features t.made.envelopes;
    frames = λ r a b e k. let z = back r a b e k in rw (← z.2.frame) (t.made.frames r a b z.0 z.1);
    bare = λ r a b e k w. let z = back r a b e k in rw (← z.2.cells) (t.made.bare r a b z.0 z.1 (z.2.whole ∙ w));
    ruled = λ r a b e k. let z = back r a b e k in rw i.rules (t.made.ruled r a b z.0 z.1);
  };
  errors = λ r a b e k.
      let z = back r a b e k in
      let x = t.errors r a b z.0 z.1 in
      rw i.next (record {
        from_1 = x.from_1;
        given = x.given;
        partner = x.partner;
        cells = λ w. rw (← z.2.cells) (x.cells (z.2.whole ∙ w));
        some = rw (← z.2.cells) x.some;
      });
}
  where
    back : (r a b : ℕ) (e : Entry) → entry_at new.entries r a b ≡ Some e → (d : Entry) × (entry_at old.entries r a b ≡ Some d)
        × IsUnchanged d e
    back r a b e k = stood (entry_at old.entries r a b) e (rw k at (i.entries r a b))

alike : (f : Feature) (x : Option Finding) (o p : Option Entry) → SameButMark o p → AreAlike f x o → AreAlike f x p
alike f None None None m h = tt
alike f None None (Some e) m h = m
alike f None (Some d) p m h = absurd h
alike f (Some x) None p m h = absurd h
alike f (Some x) (Some d) None m h = m
alike f (Some x) (Some d) (Some e) m h = record {
  whole = sym m.whole ∙ h.whole;
  cells = sym m.cells ∙ h.cells;
  frame = λ w. rw (← m.frame) (h.frame w);
  envelope = λ w. sym m.frame ∙ h.envelope w;
}

pub mark_settled : (M : Meaning) (old new : Project) → IsMarking old new → IsSettledUnder M old → IsSettledUnder M new
mark_settled M old new i s = record {
  cut = λ r row e a f k n.
      let c = s.cut r row (rw i.rules at e) a f (rw i.features at k) (λ m. n (rw i.dirt m)) in (
        c.0,
        rw i.features c.1,
        λ b. alike f (finding_at c.0 b) (entry_at old.entries r a b) (entry_at new.entries r a b) (i.entries r a b)
            (c.2 b),
      );
  frames = λ r row e a b x k.
      let z = stood (entry_at old.entries r a b) x (rw k at (i.entries r a b)) in
      rw (i.dirt, i.features, ← z.2.frame) (s.frames r row (rw i.rules at e) a b z.0 z.1);
}
