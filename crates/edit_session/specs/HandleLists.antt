-- A list of handles, and how it is kept so that each is found in little time.
--
-- HandleItems        the handles, the first one first, and for how many more there is room
-- rising_from n hs   those of the handles hs that are n or more and greater than all before them
-- others_from n hs   the other ones
-- floor_of n rs      the least handle that is n or more and greater than all of rs, which rise and are n or more
-- counted n          the count n, or nothing where it is 0
-- one_less o         the count o less one
-- AreCounts m hs     the map m gives of each handle how often it is in hs, and nothing where it is not
-- AreKept rs m hs    rs are those of hs that are greater than all before them, and m counts the other ones
use Rattle.std.specs.Prelude.{◌≡◌, ℕ, zero, suc, ◌-◌, ◌==◌, List, [], ◌∷◌, Option, None, Some, nat_eq, nat_lt, if◌then◌else◌}
use Rattle.std.specs.List.{count_by}
use Rattle.std.specs.HashMap.{HashMap, get}

pub record HandleItems : Type 0 where
  pub items : List ℕ
  pub room : ℕ

abbrev pub rising_from : ℕ → List ℕ → List ℕ
rising_from n [] = []
rising_from n (h ∷ hs) = if nat_lt h n then rising_from n hs else (h ∷ rising_from (suc h) hs)

abbrev pub others_from : ℕ → List ℕ → List ℕ
others_from n [] = []
others_from n (h ∷ hs) = if nat_lt h n then h ∷ others_from n hs else others_from (suc h) hs

abbrev pub floor_of : ℕ → List ℕ → ℕ
floor_of n [] = n
floor_of n (r ∷ rs) = floor_of (suc r) rs

abbrev pub counted : ℕ → Option ℕ
counted zero = None
counted (suc n) = Some (suc n)

abbrev pub one_less : Option ℕ → Option ℕ
one_less None = None
one_less (Some n) = counted (n - 1)

abbrev pub AreCounts : {S : Type 0} → HashMap ℕ ℕ S → List ℕ → Type 0
AreCounts m hs = (h : ℕ) → get nat_eq m h ≡ counted (count_by (λ (o : ℕ). o == h) hs)

pub record AreKept {S : Type 0} (rs : List ℕ) (m : HashMap ℕ ℕ S) (hs : List ℕ) : Type 0 where
  pub rising : rs ≡ rising_from 0 hs
  pub others : AreCounts m (others_from 0 hs)
