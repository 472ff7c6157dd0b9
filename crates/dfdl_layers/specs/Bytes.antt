-- A machine over characters as one over the bytes of their coding.
use Rattle.std.specs.Prelude.{◌≡◌, ℕ, ◌<◌, ◌≤◌, List, [], ◌∷◌, ◌++◌, ◌⊎◌, Bool, false, Option, Some}
use Rattle.std.specs.Prelude.{None, Result, Ok, Err}
use Rattle.std.specs.List.{flat_map}
use Rattle.dfdl_layers.specs.Tellers.{Each}

-- what bytes are: a character's whole coding, a part of one that ends too early, or the front of
-- none
pub data Seen : Type 0 where
  Whole : (c : ℕ) → Seen
  Part : Seen
  Bad : Seen

-- a front of the coding of c, with these bytes behind it, is seen as what it is
abbrev pub SeenAs : List ℕ → ℕ → Seen → Type 0
SeenAs [] c seen = seen ≡ Whole c
SeenAs (b ∷ rest) c seen = seen ≡ Part

-- `see` tells what bytes are in the coding of the characters that are `Scalar`
pub record IsCoding (Scalar : ℕ → Type 0) (encode : ℕ → List ℕ) (see : List ℕ → Seen) : Type 0 where
  -- what is seen as a whole character is its coding
  pub whole : (bytes : List ℕ) (c : ℕ) → see bytes ≡ Whole c → Scalar c × (encode c ≡ bytes)
  -- each front of a coding that is not empty is seen as what it is
  pub seen : (c : ℕ) (front : List ℕ) (b : ℕ) (rest : List ℕ) → Scalar c
      → encode c ≡ front ++ b ∷ rest
      → SeenAs rest c (see (front ++ b ∷ []))
  -- no coding is empty
  pub some : (c : ℕ) → Scalar c → encode c ≡ [] → ⊥

-- the coding of the character begins with these bytes
pub record IsBegun (Scalar : ℕ → Type 0) (encode : ℕ → List ℕ) (bytes : List ℕ)
    (c : ℕ) : Type 0 where
  pub scalar : Scalar c
  pub rest : List ℕ
  pub encoded : encode c ≡ bytes ++ rest

-- the state of the machine over characters, and the bytes of a character that is not whole yet
pub record Inside (S : Type 0) : Type 0 where
  pub state : S
  pub read : List ℕ

-- no character is begun
abbrev pub between : {S : Type 0} → S → Inside S
between s = record { state = s; read = [] }

-- the answer of a step over a whole character
abbrev pub behind : {S : Type 0} → Result S ℕ → Result (Inside S) ℕ
behind (Ok t) = Ok (between t)
behind (Err m) = Err m

-- the answer at bytes of a character that is not whole: to wait for more, or the rule that each
-- such character breaks
abbrev pub waits : {S : Type 0} → S → List ℕ → Option ℕ → Result (Inside S) ℕ
waits s bytes None = Ok (record { state = s; read = bytes })
waits s bytes (Some m) = Err m

-- the answer at bytes that are seen so; `rule` is that bytes are a coding
abbrev pub by_seen : {S : Type 0} → ℕ → (S → ℕ → Result S ℕ) → (S → List ℕ → Option ℕ) → S → List ℕ
    → Seen → Result (Inside S) ℕ
by_seen rule step could s bytes (Whole c) = behind (step s c)
by_seen rule step could s bytes Part = waits s bytes (could s bytes)
by_seen rule step could s bytes Bad = Err rule

-- the step over bytes: `see` tells what the bytes of the character up to this one are, and `could`,
-- of a part of one, whether some character that begins so has a step, or else which rule is broken
abbrev pub byte_step : {S : Type 0} → ℕ → (S → ℕ → Result S ℕ) → (S → List ℕ → Option ℕ)
    → (List ℕ → Seen) → Inside S → ℕ → Result (Inside S) ℕ
byte_step rule step could see i b =
    by_seen rule step could i.state (i.read ++ b ∷ []) (see (i.read ++ b ∷ []))

-- what is accepted where these bytes of a character are read
abbrev pub if_whole : Bool → List ℕ → Bool
if_whole accepted [] = accepted
if_whole accepted (b ∷ bytes) = false

-- the bytes are accepted where they end behind a character and the machine accepts
abbrev pub byte_accepts : {S : Type 0} → (S → Bool) → Inside S → Bool
byte_accepts accepts i = if_whole (accepts i.state) i.read

-- the character breaks a rule, this one or one below it
abbrev pub FailsBy : {S : Type 0} → ℕ → Result S ℕ → Type 0
FailsBy m (Ok t) = ⊥
FailsBy m (Err k) = k ≤ m

-- `could` tells of a part of a character what the characters that begin so come to
pub record IsForesight {S : Type 0} (step : S → ℕ → Result S ℕ) (Scalar : ℕ → Type 0)
    (encode : ℕ → List ℕ) (see : List ℕ → Seen)
    (could : S → List ℕ → Option ℕ) (Sound : S → Type 0) : Type 0 where
  -- where it is None, some character that begins so has a step
  pub can : (s : S) (bytes : List ℕ) → Sound s → see bytes ≡ Part → could s bytes ≡ None
      → (c : ℕ) × (t : S) × IsBegun Scalar encode bytes c × (step s c ≡ Ok t)
  -- where it is a rule, some character that begins so breaks this one
  pub cannot : (s : S) (bytes : List ℕ) (m : ℕ) → Sound s → see bytes ≡ Part
      → could s bytes ≡ Some m
      → (c : ℕ) × IsBegun Scalar encode bytes c × (step s c ≡ Err m)
  -- and each of them this one or one below it
  pub most : (s : S) (bytes : List ℕ) (m c : ℕ) → Sound s → see bytes ≡ Part
      → could s bytes ≡ Some m → IsBegun Scalar encode bytes c
      → FailsBy m (step s c)

-- no character is begun, or these bytes are a part of one that has a step
abbrev pub IsOpen : {S : Type 0} → (List ℕ → Seen) → (S → List ℕ → Option ℕ) → S → List ℕ → Type 0
IsOpen see could s bytes = (bytes ≡ []) ⊎ ((see bytes ≡ Part) × (could s bytes ≡ None))

-- the states that the machine over bytes comes to
pub record SoundInside {S : Type 0} (see : List ℕ → Seen) (could : S → List ℕ → Option ℕ)
    (Sound : S → Type 0) (i : Inside S) : Type 0 where
  pub sound : Sound i.state
  pub opened : IsOpen see could i.state i.read

-- any byte may be given
abbrev pub AnyByte : ℕ → Type 0
AnyByte b = Unit {0}

-- what may follow: past the rule bytes that, behind those read, are the coding of characters that
-- may follow
pub record RestOfBytes {S : Type 0} (rule : ℕ) (Scalar : ℕ → Type 0) (encode : ℕ → List ℕ)
    (Rest : ℕ → S → List ℕ → Type 0) (n : ℕ)
    (i : Inside S) (bytes : List ℕ) : Type 0 where
  pub characters : List ℕ
  pub are_scalar : rule < n → Each Scalar characters
  pub encoded : rule < n → i.read ++ bytes ≡ flat_map encode characters
  pub rest : Rest n i.state characters
