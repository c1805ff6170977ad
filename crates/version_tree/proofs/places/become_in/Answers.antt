use Rattle.std.proofs.Common.{length, refl}
use Rattle.std.proofs.lemmas.Option.{slice_get_read}
use Rattle.version_tree.proofs.Posts.{posted_in}
use Rattle.version_tree.proofs.places.become_in.Goals as goal

pub returns : goal.returns
returns g c = posted_in g.R.RuleSet.meaning c.args.from.now.features c.become_like.result c.args.versions.now.items c.args.index
    c.index_mut.result.now c.become_like.new.self
    (slice_get_read c.args.versions.now.items (length c.args.versions.now.items) c.args.index c.index_mut.result.now refl c.requires.within
    c.index_mut.ensures.value) c.become_like.ensures.ok c.become_like.ensures.err c.become_like.ensures.moves
