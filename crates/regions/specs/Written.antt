-- Region records written down, for cases. Assumes nothing.
use Rattle.std.specs.Prelude.{List, [], ◌∷◌, ◌++◌, ℕ, ◌-◌, length, replicate}
use Rattle.regions.specs.Region.{places}

-- a side in its record
abbrev pub side_record : List ℕ → List ℕ
side_record edges = length edges ∷ edges ++ replicate (places - length edges) 0

-- sides 0 to 3: the first and the third are opposite, and the second and the fourth
abbrev pub region : List ℕ → List ℕ → List ℕ → List ℕ → List ℕ
region bottom right top left = side_record bottom ++ side_record right ++ side_record top ++ side_record left

-- a side of one edge
abbrev pub alone : ℕ → List ℕ
alone edge = edge ∷ []
