-- Which document a location means ('DFDL Schema Component Model' builds on the documents of an XML
-- schema; how locations are resolved is the profile's own rule).
use Rattle.std.specs.Prelude.{ℕ, ◌-◌, ◌==◌, ◌&&◌, ◌||◌, Bool, false, not, if◌then◌else◌}
use Rattle.std.specs.Prelude.{List, [], ◌∷◌, ◌++◌, length, take, Option, None, Some, codes}
use Rattle.std.specs.List.{slice_split, slice_get, flat_map}
use Rattle.std.specs.Str.{bytes_eq}

-- the segments of a text, between its `/`
abbrev pub segments_of : List ℕ → List (List ℕ)
segments_of text = slice_split (λ b. b == 47) text

-- the segments of the folder of a name: all of its segments but the last one
abbrev pub folder_of : List ℕ → List (List ℕ)
folder_of name = take (length (segments_of name) - 1) (segments_of name)

-- the text begins with `/`
abbrev pub is_rooted : List ℕ → Bool
is_rooted [] = false
is_rooted (b ∷ text) = b == 47

-- the segment leads nowhere: it is empty, or `.`
abbrev pub stays : List ℕ → Bool
stays segment = bytes_eq segment [] || bytes_eq segment (codes ".")

-- the segment leads to the folder above
abbrev pub leads_up : List ℕ → Bool
leads_up segment = bytes_eq segment (codes "..")

-- the segment is there, and is not `..`
abbrev pub is_plain : Option (List ℕ) → Bool
is_plain None = false
is_plain (Some segment) = not (leads_up segment)

-- the last of the segments
abbrev pub last_of : List (List ℕ) → Option (List ℕ)
last_of segments = slice_get segments (length segments - 1)

-- the segments so far with one more: `..` takes off the last one, where that is a plain one
abbrev pub followed : List (List ℕ) → List ℕ → List (List ℕ)
followed segments segment =
    if stays segment then segments
    else (if leads_up segment && is_plain (last_of segments)
    then take (length segments - 1) segments
    else segments ++ segment ∷ [])

-- the segments so far with others behind them, one after the other
abbrev pub resolved : List (List ℕ) → List (List ℕ) → List (List ℕ)
resolved segments [] = segments
resolved segments (segment ∷ others) = resolved (followed segments segment) others

-- segments, each behind a `/`
abbrev pub behind_slashes : List (List ℕ) → List ℕ
behind_slashes segments = flat_map (λ segment. 47 ∷ segment) segments

-- segments with `/` between each two
abbrev pub joined : List (List ℕ) → List ℕ
joined [] = []
joined (segment ∷ others) = segment ++ behind_slashes others

-- the `/` that a name begins with, if it does
abbrev pub root_of : List ℕ → List ℕ
root_of name = if is_rooted name then 47 ∷ [] else []

-- the name of the document that a location means in the document of a name: a location that begins
-- with `/` counts from the start folder, any other from the folder of that name
abbrev pub name_from : List ℕ → List ℕ → List ℕ
name_from name location =
    if is_rooted location
    then joined (resolved [] (segments_of location))
    else (root_of name
    ++ joined (resolved (resolved [] (folder_of name)) (segments_of location)))
