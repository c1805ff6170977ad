-- Keys of errors.
--
-- Key                  a rule, a subject and a partner, or 0 where there is none
-- key_of e             the key of an entry
-- IsBefore j k         j stands before k
use Rattle.std.specs.Prelude.{◌≡◌, ◌⊎◌, ℕ, ◌<◌}
use Rattle.topology_terms.specs.Entry.{Entry}

pub record Key : Type 0 where
  pub rule : ℕ
  pub subject : ℕ
  pub other : ℕ

abbrev pub key_of : Entry → Key
key_of e = record { rule = e.rule; subject = e.subject; other = e.other }

abbrev pub IsBefore : Key → Key → Type 0
IsBefore j k = (j.rule < k.rule) ⊎ ((j.rule ≡ k.rule) × ((j.subject < k.subject) ⊎ ((j.subject ≡ k.subject) × (j.other < k.other))))
