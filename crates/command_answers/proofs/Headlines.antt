-- What every topology of the rules keeps is the invariant of a run's states; and with no dirt it is told exactly everywhere.
use Rattle.std.proofs.Common.{◌≡◌, List, [], None, sym, subst, ap, ◌∙◌}
use Rattle.topology_terms.specs.Meaning.{Laws}
use Rattle.topology_terms.specs.Poster.{poster}
use Rattle.topology_terms.specs.Project.{Project}
use Rattle.topology_terms.specs.Settled.{IsSettled}
use Rattle.topology_terms.specs.Sound.{IsSound}
use Rattle.sound_laws.proofs.Settling.{clean_points, clean_live, clean_whole}
use Rattle.topo_core.specs.Topologies.{IsTopology}
use Rattle.script_terms.specs.Headline.{Headline, Invariant, IsExact, SoundHeadline}
use Rattle.command_answers.proofs.FromScratch.{scratch}
use Rattle.session_terms.specs.Kept.{KeptSession}
use Rattle.command_answers.specs.Worlds.{state_of, IsWorld}
use Rattle.script_terms.specs.State.{started}
use Rattle.version_terms.specs.Versions.{Tree, default_name}

headline : (p : Project) → IsTopology p → IsSound p → Headline p
headline p t s = record {
  points = λ r row e q off a b. (s.each r row e a).points q off b;
  features = λ r row e a f live clear. (s.each r row e a).whole f live clear;
  some = λ r a b e found cells.
      let row = t.made.ruled r a b e found in
      let framed = (s.each r row.0 row.1 a).cells b e found cells in
      (framed.some, framed.points);
  whole = t.made.bare;
  ruled = t.made.ruled;
  by_key = t.order;
}

exact : (p : Project) → Laws poster → IsTopology p → IsSound p → p.dirt ≡ [] → IsExact p
exact p L t s clean = record {
  points = λ r row e a b q. clean_points poster p s clean r row e a b q;
  features = λ r row e a. clean_whole poster L p s clean r row e a;
  live = λ r a b x found. let row = t.made.ruled r a b x found in clean_live poster p s clean r row.0 row.1 a b x found;
}

pub sound_headline : (p : Project) → Laws poster → IsTopology p → IsSound p → SoundHeadline p
sound_headline p L t s = record { sound = s; headline = headline p t s; clean = exact p L t s }

pub invariant : (p : Project) → Laws poster → IsTopology p → IsSound p → IsSettled p → Invariant p
invariant p L t s k = record { base = sound_headline p L t s; settled = k; scratch = scratch p t k }

-- no session has a step
pub begun : (p : Project) (ss : List KeptSession) → ss ≡ [] → IsWorld p ss
begun p ss e = subst (IsWorld p) (sym e) (record { keeping = record { apart = tt; chained = tt; given = tt }; may = tt })

pub begun_seen : (p : Project) (t : Tree) (ss : List KeptSession)
    → t ≡ record { current = record { name = default_name; project = p; base = None }; others = [] } → ss ≡ [] → state_of t ss ≡ started p
begun_seen p t ss e f = ap (state_of t) f ∙ ap (λ (u : Tree). state_of u []) e
