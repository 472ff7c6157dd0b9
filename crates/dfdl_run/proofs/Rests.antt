-- What is left of a source behind the pieces that it has given.
use Rattle.std.proofs.Common.{◌≡◌, ℕ, ◌≤◌, List, [], ◌++◌, Option, Some, None, length, take, refl, sym, ap, subst, ◌∙◌, arith, append-nil, append_assoc, length-append}
use Rattle.dfdl_edge.specs.Source.{Takes}
use Rattle.dfdl_edge.specs.Told.{IsAll, IsLonger}
use Rattle.dfdl_edge.specs.Whole.{IsAfter, IsUsedUp}
use Rattle.dfdl_terms.specs.Rows.{Table}
use Rattle.dfdl_run.specs.declared.feeding.Feeding.{Feeding}
use Rattle.dfdl_run.specs.Fed.{HasEnded, HasParsedAll, HasRead, HasReadAll, HasTaken}

-- nothing was given
pub none_given : (left : Option (List ℕ)) → IsAfter left [] left
none_given None = tt
none_given (Some all) = refl

-- one more piece was given
pub piece_given : (left now then : Option (List ℕ)) (bytes buffer : List ℕ) (count : ℕ) → IsAfter left bytes now
    → Takes now count buffer then → IsAfter left (bytes ++ take count buffer) then
piece_given None None None bytes buffer count before more = tt
piece_given None None (Some end) bytes buffer count before more = absurd more
piece_given None (Some rest) then bytes buffer count before more = absurd before
piece_given (Some all) None then bytes buffer count before more = absurd before
piece_given (Some all) (Some rest) None bytes buffer count before more = absurd more
piece_given (Some all) (Some rest) (Some end) bytes buffer count before more =
    before ∙ (ap (λ (xs : List ℕ). bytes ++ xs) more.bytes ∙ sym (append_assoc bytes (take count buffer) end))

-- all that the source had was given, and nothing is left
pub record HasGivenAll (left then : Option (List ℕ)) (bytes : List ℕ) : Type 0 where
  pub all : IsAll left bytes
  pub used_up : IsUsedUp left then

-- a read that gives nothing is at the end
pub nothing_more : (now then : Option (List ℕ)) (buffer : List ℕ) (count : ℕ) → count ≡ 0 → Takes now count buffer then
    → IsAll now [] × IsUsedUp now then
nothing_more None None buffer count none more = (tt, tt)
nothing_more None (Some end) buffer count none more = absurd more
nothing_more (Some rest) None buffer count none more = absurd more
nothing_more (Some rest) (Some end) buffer count none more =
    let no_rest : rest ≡ [] = more.end none in
    let same : rest ≡ end = more.bytes ∙ ap (λ (n : ℕ). take n buffer ++ end) none in
    (sym no_rest, sym same ∙ no_rest)

pub ended_behind : (left now then : Option (List ℕ)) (bytes : List ℕ) → IsAfter left bytes now → IsAll now [] → IsUsedUp now then
    → HasGivenAll left then bytes
ended_behind None None None bytes before ended used = record { all = tt; used_up = tt }
ended_behind None None (Some end) bytes before ended used = absurd used
ended_behind None (Some rest) then bytes before ended used = absurd before
ended_behind (Some all) None then bytes before ended used = absurd before
ended_behind (Some all) (Some rest) None bytes before ended used = absurd used
ended_behind (Some all) (Some rest) (Some end) bytes before ended used = record {
  all = sym (before ∙ (ap (λ (xs : List ℕ). bytes ++ xs) (sym ended) ∙ append-nil bytes));
  used_up = used;
}

-- the source has a byte past those that are allowed
pub longer_behind : (left now : Option (List ℕ)) (bytes : List ℕ) (most : ℕ) → IsAfter left bytes now → most ≤ length bytes → IsLonger now 0
    → IsLonger left most
longer_behind None None bytes most before past longer = tt
longer_behind None (Some rest) bytes most before past longer = absurd before
longer_behind (Some all) None bytes most before past longer = absurd before
longer_behind (Some all) (Some rest) bytes most before past longer =
    let whole : length all ≡ length (bytes ++ rest) = ap length before in
    let size = length-append bytes rest in
    omega arith

-- one more piece was read, and taken
pub read_on : (t : Table) (left now then : Option (List ℕ)) (old new : Feeding) (buffer piece : List ℕ) (count : ℕ) → HasRead t left now old
    → piece ≡ take count buffer → Takes now count buffer then
    → ((t : Table) (bytes : List ℕ) → HasTaken t old bytes → HasTaken t new (bytes ++ piece)) → HasRead t left then new
read_on t left now then old new buffer piece count read is takes taken = record {
  bytes = read.bytes ++ take count buffer;
  taken = subst (λ (xs : List ℕ). HasTaken t new (read.bytes ++ xs)) is (taken t read.bytes read.taken);
  given = piece_given left now then read.bytes buffer count read.given takes;
}

-- all was read
pub read_whole : (t : Table) (left now then : Option (List ℕ)) (f : Feeding) (most : ℕ) → HasRead t left now f → IsAll now [] → IsUsedUp now then
    → f.count ≤ most → HasReadAll t left then most f
read_whole t left now then f most read ended used few =
    let given = ended_behind left now then read.bytes read.given ended used in
    let count = read.taken.count in
    record { bytes = read.bytes; taken = read.taken; all = given.all; used_up = given.used_up; fits = omega arith }

-- there is more than may be read
pub read_past : (t : Table) (left now : Option (List ℕ)) (f : Feeding) (most : ℕ) → HasRead t left now f → most ≤ f.count → IsLonger now 0
    → IsLonger left most
read_past t left now f most read past longer =
    let count = read.taken.count in
    longer_behind left now read.bytes most read.given (omega arith) longer

-- all was read, and the end told
pub read_told : (t : Table) (left then : Option (List ℕ)) (most : ℕ) (old new : Feeding) → HasReadAll t left then most old
    → ((t : Table) (bytes : List ℕ) → HasTaken t old bytes → HasEnded t new bytes) → HasParsedAll t left then most new
read_told t left then most old new read ended = record {
  bytes = read.bytes;
  ended = ended t read.bytes read.taken;
  all = read.all;
  used_up = read.used_up;
  fits = read.fits;
}
