-- A machine over characters that tells rules, as one over the bytes of their coding, which tells
-- one rule more.
use Rattle.std.proofs.Common.{◌≡◌, ℕ, ◌<◌, ◌≤◌, List, [], ◌∷◌, ◌++◌, Bool, true, Option, Some, None}
use Rattle.std.proofs.Common.{Result, Ok, Err, refl, sym, ap, subst, ◌∙◌, arith, append_assoc, inl}
use Rattle.std.proofs.Common.{inr}
use Rattle.std.specs.List.{flat_map}
use Rattle.std.proofs.lemmas.Bool.{cases_order}
use Rattle.std.proofs.lemmas.List.{append-nil}
use Rattle.dfdl_layers.specs.Tellers.{Each, go_on, run, Keeps, IsTeller}
use Rattle.dfdl_layers.specs.Bytes.{Seen, Whole, Part, Bad, IsCoding, IsBegun, Inside, between}
use Rattle.dfdl_layers.specs.Bytes.{behind, waits, by_seen, byte_step, byte_accepts, if_whole}
use Rattle.dfdl_layers.specs.Bytes.{IsForesight, SoundInside, AnyByte, RestOfBytes}
use Rattle.dfdl_layers.proofs.Runs.{each_of_all}
use Rattle.dfdl_layers.proofs.BytesRun.{Follows, kept_following, text_follows}

-- how a byte is taken: the character is whole and has a step, or it is not whole yet
data Taken {S : Type 0} (step : S → ℕ → Result S ℕ) (could : S → List ℕ → Option ℕ)
    (see : List ℕ → Seen) (s : S) (bytes : List ℕ) (j : Inside S) : Type 0 where
  AtWhole : (c : ℕ) (t : S) → see bytes ≡ Whole c → step s c ≡ Ok t → between t ≡ j
      → Taken step could see s bytes j
  AtPart : see bytes ≡ Part → could s bytes ≡ None → record { state = s; read = bytes } ≡ j
      → Taken step could see s bytes j

-- how a byte is refused
data Refused {S : Type 0} (rule : ℕ) (step : S → ℕ → Result S ℕ) (could : S → List ℕ → Option ℕ)
    (see : List ℕ → Seen) (s : S) (bytes : List ℕ) (m : ℕ) : Type 0 where
  ByStep : (c : ℕ) → see bytes ≡ Whole c → step s c ≡ Err m → Refused rule step could see s bytes m
  ByPart : see bytes ≡ Part → could s bytes ≡ Some m → Refused rule step could see s bytes m
  ByCoding : rule ≡ m → Refused rule step could see s bytes m

module _ {S : Type 0} (rule : ℕ) (step : S → ℕ → Result S ℕ) (could : S → List ℕ → Option ℕ)
    (see : List ℕ → Seen) (s : S) (bytes : List ℕ) where
  taken_whole : (c : ℕ) (o : Result S ℕ) (j : Inside S) → see bytes ≡ Whole c → step s c ≡ o
      → behind o ≡ Ok j → Taken step could see s bytes j
  taken_whole c (Ok t) j sees is takes = AtWhole c t sees is (cc)
  taken_whole c (Err m) j sees is takes = absurd (cc)

  taken_part : (o : Option ℕ) (j : Inside S) → see bytes ≡ Part → could s bytes ≡ o
      → waits s bytes o ≡ Ok j → Taken step could see s bytes j
  taken_part None j sees is takes = AtPart sees is (cc)
  taken_part (Some m) j sees is takes = absurd (cc)

  taken : (w : Seen) (j : Inside S) → see bytes ≡ w → by_seen rule step could s bytes w ≡ Ok j
      → Taken step could see s bytes j
  taken (Whole c) j sees takes = taken_whole c (step s c) j sees refl takes
  taken Part j sees takes = taken_part (could s bytes) j sees refl takes
  taken Bad j sees takes = absurd (cc)

  refused_whole : (c : ℕ) (o : Result S ℕ) (m : ℕ) → see bytes ≡ Whole c → step s c ≡ o
      → behind o ≡ Err m → Refused rule step could see s bytes m
  refused_whole c (Ok t) m sees is tells = absurd (cc)
  refused_whole c (Err k) m sees is tells = ByStep c sees (is ∙ ap Err (cc))

  refused_part : (o : Option ℕ) (m : ℕ) → see bytes ≡ Part → could s bytes ≡ o
      → waits s bytes o ≡ Err m → Refused rule step could see s bytes m
  refused_part None m sees is tells = absurd (cc)
  refused_part (Some k) m sees is tells = ByPart sees (is ∙ ap Some (cc))

  refused : (w : Seen) (m : ℕ) → see bytes ≡ w → by_seen rule step could s bytes w ≡ Err m
      → Refused rule step could see s bytes m
  refused (Whole c) m sees tells = refused_whole c (step s c) m sees refl tells
  refused Part m sees tells = refused_part (could s bytes) m sees refl tells
  refused Bad m sees tells = ByCoding (cc)

accepted_whole : (accepted : Bool) (read : List ℕ) → if_whole accepted read ≡ true
    → (read ≡ []) × (accepted ≡ true)
accepted_whole accepted [] takes = (refl, takes)
accepted_whole accepted (b ∷ read) takes = absurd (cc)

-- what a run tells is told of each item more
kept_step : {S : Type 0} (n : ℕ) (o : Result S ℕ) (go : S → Result S ℕ) (t : S) → o ≡ Ok t
    → Keeps n (go_on go o) → Keeps n (go t)
kept_step n o go t is kept = subst (λ r. Keeps n (go_on go r)) is kept

kept_err : {S : Type 0} (n : ℕ) (o : Result S ℕ) (go : S → Result S ℕ) (m : ℕ) → o ≡ Err m
    → Keeps n (go_on go o) → n ≤ m
kept_err n o go m is kept = subst (λ r. Keeps n (go_on go r)) is kept

module _ {S : Type 0} {step : S → ℕ → Result S ℕ} {start : S} {accepts : S → Bool} {all : ℕ}
    {Scalar : ℕ → Type 0} {encode : ℕ → List ℕ}
    {see : List ℕ → Seen} {could : S → List ℕ → Option ℕ} {Sound : S → Type 0}
    {Rest : ℕ → S → List ℕ → Type 0} (rule : ℕ)
    (coding : IsCoding Scalar encode see)
    (foresight : IsForesight step Scalar encode see could Sound)
    (free : (n : ℕ) (s : S) (characters : List ℕ) → n ≤ rule → Rest n s characters)
    (teller : IsTeller step start accepts all Scalar Sound Rest) where
  goes_bytes : (i j : Inside S) (b : ℕ) → SoundInside see could Sound i
      → byte_step rule step could see i b ≡ Ok j → SoundInside see could Sound j
  goes_bytes i j b sound takes =
      elim (taken rule step could see i.state (i.read ++ b ∷ [])
      (see (i.read ++ b ∷ [])) j refl takes) [
        | AtWhole c t sees goes same ↦
            subst (λ k. SoundInside see could Sound k) same
            (record { sound = teller.goes i.state t c sound.sound goes; opened = inl refl })
        | AtPart sees none same ↦
            subst (λ k. SoundInside see could Sound k) same
            (record { sound = sound.sound; opened = inr (sees, none) })
      ]

  -- a byte that is read may stand in front of what may follow
  shifted : (n : ℕ) (i : Inside S) (b : ℕ) (bytes : List ℕ)
      → RestOfBytes rule Scalar encode Rest n
      (record { state = i.state; read = i.read ++ b ∷ [] }) bytes
      → RestOfBytes rule Scalar encode Rest n i (b ∷ bytes)
  shifted n i b bytes at = record {
    characters = at.characters;
    are_scalar = at.are_scalar;
    encoded = λ less. sym (append_assoc i.read (b ∷ []) bytes) ∙ at.encoded less;
    rest = at.rest;
  }

  back_bytes : (n : ℕ) (i j : Inside S) (b : ℕ) (bytes : List ℕ) → SoundInside see could Sound i
      → byte_step rule step could see i b ≡ Ok j
      → RestOfBytes rule Scalar encode Rest n j bytes
      → RestOfBytes rule Scalar encode Rest n i (b ∷ bytes)
  back_bytes n i j b bytes sound takes rest =
      elim (taken rule step could see i.state (i.read ++ b ∷ [])
      (see (i.read ++ b ∷ [])) j refl takes) [
        | AtWhole c t sees goes same ↦ (
            let at : RestOfBytes rule Scalar encode Rest n (between t) bytes =
            subst (λ k. RestOfBytes rule Scalar encode Rest n k bytes) (sym same) rest in
            let coded = coding.whole (i.read ++ b ∷ []) c sees in
            record {
              characters = c ∷ at.characters;
              are_scalar = λ less. (coded.0, at.are_scalar less);
              encoded =
                  λ less. sym (append_assoc i.read (b ∷ []) bytes)
                  ∙ (ap (λ l. l ++ bytes) (sym coded.1)
                  ∙ ap (λ l. encode c ++ l) (at.encoded less));
              rest = teller.back n i.state t c at.characters sound.sound goes at.rest;
            })
        | AtPart sees none same ↦
            shifted n i b bytes
            (subst (λ k. RestOfBytes rule Scalar encode Rest n k bytes) (sym same) rest)
      ]

  done_bytes : (i : Inside S) → SoundInside see could Sound i → byte_accepts accepts i ≡ true
      → RestOfBytes rule Scalar encode Rest all i []
  done_bytes i sound takes =
      let both = accepted_whole (accepts i.state) i.read takes in
      record {
        characters = [];
        are_scalar = λ less. tt;
        encoded = λ less. append-nil i.read
            ∙ both.0;
        rest = teller.done i.state sound.sound both.1;
      }

  -- where what may follow is a character and what may follow it, the bytes may that are left of the
  -- character
  begun_bytes : (n : ℕ) (s : S) (read : List ℕ) (c : ℕ) (more : List ℕ)
      → (begun : IsBegun Scalar encode read c) → Each Scalar more → Rest n s (c ∷ more)
      → RestOfBytes rule Scalar encode Rest n (record { state = s; read = read })
      (begun.rest ++ flat_map encode more)
  begun_bytes n s read c more begun each rest = record {
    characters = c ∷ more;
    are_scalar = λ less. (begun.scalar, each);
    encoded =
        λ less. sym (append_assoc read begun.rest (flat_map encode more))
        ∙ ap (λ l. l ++ flat_map encode more) (sym begun.encoded);
    rest = rest;
  }

  live_bytes : (i : Inside S) → SoundInside see could Sound i
      → (more : List ℕ) × Each AnyByte more × RestOfBytes rule Scalar encode Rest all i more
  live_bytes i sound =
      elim sound.opened [
        | inl none ↦ (
            let more = teller.live i.state sound.sound in (
              flat_map encode more.0,
              each_of_all AnyByte (λ b. tt) (flat_map encode more.0),
              record {
                characters = more.0;
                are_scalar = λ less. more.1;
                encoded = λ less. ap (λ l. l ++ flat_map encode more.0) none;
                rest = more.2;
              },
            ))
        | inr part ↦ (
            let found = foresight.can i.state i.read sound.sound part.0 part.1 in
            let more =
            teller.live found.1 (teller.goes i.state found.1 found.0 sound.sound found.3) in
            let bytes = found.2.rest ++ flat_map encode more.0 in (
              bytes,
              each_of_all AnyByte (λ b. tt) bytes,
              begun_bytes all i.state i.read found.0 more.0 found.2 more.1
                  (teller.back all i.state found.1 found.0 more.0 sound.sound found.3 more.2),
            ))
      ]

  tells_begun : (m : ℕ) (i : Inside S) (b c : ℕ) → Sound i.state
      → IsBegun Scalar encode (i.read ++ b ∷ []) c → step i.state c ≡ Err m
      → (more : List ℕ) × Each AnyByte more × RestOfBytes rule Scalar encode Rest m i (b ∷ more)
  tells_begun m i b c sound begun tells =
      let more = teller.tells i.state c m sound begun.scalar tells in
      let bytes = begun.rest ++ flat_map encode more.0 in (
        bytes,
        each_of_all AnyByte (λ d. tt) bytes,
        shifted m i b bytes (begun_bytes m i.state (i.read ++ b ∷ []) c more.0 begun more.1 more.2),
      )

  tells_bytes : (i : Inside S) (b m : ℕ) → SoundInside see could Sound i → AnyByte b
      → byte_step rule step could see i b ≡ Err m
      → (more : List ℕ) × Each AnyByte more × RestOfBytes rule Scalar encode Rest m i (b ∷ more)
  tells_bytes i b m sound any tells =
      elim (refused rule step could see i.state (i.read ++ b ∷ [])
      (see (i.read ++ b ∷ [])) m refl tells) [
        | ByStep c sees fails ↦ (
            let coded = coding.whole (i.read ++ b ∷ []) c sees in
            tells_begun m i b c sound.sound
            (record {
              scalar = coded.0;
              rest = [];
              encoded = coded.1
                  ∙ sym (append-nil (i.read ++ b ∷ []));
            }) fails)
        | ByPart sees could_not ↦ (
            let found = foresight.cannot i.state (i.read ++ b ∷ []) m sound.sound sees could_not in
            tells_begun m i b found.0 sound.sound found.1 found.2)
        | ByCoding same ↦ (
          [],
          tt,
          record {
            characters = [];
            are_scalar = λ less. tt;
            encoded = λ less. absurd (omega arith);
            rest = free m i.state [] (omega arith);
          },
        )
      ]

  low_whole : (n : ℕ) (s : S) (c : ℕ) (next : Inside S → Result (Inside S) ℕ) (o : Result S ℕ)
      → step s c ≡ o
      → ((characters : List ℕ) → Keeps n (run step s characters))
      → ((t : S) → step s c ≡ Ok t → Keeps n (next (between t))) → Keeps n (go_on next (behind o))
  low_whole n s c next (Ok t) is kept follows = follows t is
  low_whole n s c next (Err m) is kept follows =
      kept_err n (step s c) (λ t. run step t []) m is (kept (c ∷ []))

  low_part : (n : ℕ) (s : S) (bytes : List ℕ) (next : Inside S → Result (Inside S) ℕ) (o : Option ℕ)
      → see bytes ≡ Part → could s bytes ≡ o → Sound s
      → ((characters : List ℕ) → Keeps n (run step s characters))
      → Keeps n (next (record { state = s; read = bytes })) → Keeps n (go_on next (waits s bytes o))
  low_part n s bytes next None sees is sound kept follows = follows
  low_part n s bytes next (Some m) sees is sound kept follows =
      let found = foresight.cannot s bytes m sound sees is in
      kept_err n (step s found.0) (λ t. run step t []) m found.2 (kept (found.0 ∷ []))

  low_seen : (n : ℕ) → n ≤ rule
      → (s : S) (bytes : List ℕ) (next : Inside S → Result (Inside S) ℕ) (w : Seen) → see bytes ≡ w
      → Sound s
      → ((characters : List ℕ) → Keeps n (run step s characters))
      → ((c : ℕ) (t : S) → step s c ≡ Ok t → Keeps n (next (between t)))
      → Keeps n (next (record { state = s; read = bytes }))
      → Keeps n (go_on next (by_seen rule step could s bytes w))
  low_seen n less s bytes next (Whole c) sees sound kept whole part =
      low_whole n s c next (step s c) refl kept (λ t goes. whole c t goes)
  low_seen n less s bytes next Part sees sound kept whole part =
      low_part n s bytes next (could s bytes) sees refl sound kept part
  low_seen n less s bytes next Bad sees sound kept whole part = less

  -- where no rule below n is told over characters, none is told over bytes, up to the rule of the
  -- coding
  low_keeps : (n : ℕ) → n ≤ rule → (bytes : List ℕ) (i : Inside S) → Sound i.state
      → ((characters : List ℕ) → Keeps n (run step i.state characters))
      → Keeps n (run (byte_step rule step could see) i bytes)
  low_keeps n less [] i sound kept = tt
  low_keeps n less (b ∷ bytes) i sound kept =
      low_seen n less i.state (i.read ++ b ∷ []) (λ j. run (byte_step rule step could see) j bytes)
      (see (i.read ++ b ∷ [])) refl sound kept
      (λ c t goes. low_keeps n less bytes (between t) (teller.goes i.state t c sound goes)
      (λ characters. kept_step n (step i.state c) (λ u. run step u characters) t goes
      (kept (c ∷ characters))))
      (low_keeps n less bytes (record { state = i.state; read = i.read ++ b ∷ [] }) sound kept)

  low_bytes : (n : ℕ) → n ≤ rule → (bytes : List ℕ)
      → Keeps n (run (byte_step rule step could see) (between start) bytes)
  low_bytes n less bytes =
      low_keeps n less bytes (between start) teller.begins
      (λ characters. teller.keeps n characters (free n start characters less))

  high_bytes : (n : ℕ) → rule < n → (bytes : List ℕ)
      → RestOfBytes rule Scalar encode Rest n (between start) bytes
      → Keeps n (run (byte_step rule step could see) (between start) bytes)
  high_bytes n less bytes rest =
      subst (λ l. Keeps n (run (byte_step rule step could see) (between start) l))
      (sym (rest.encoded less))
      (kept_following n (run step start rest.characters)
      (run (byte_step rule step could see) (between start) (flat_map encode rest.characters))
      (text_follows rule teller.goes coding foresight rest.characters start teller.begins
      (rest.are_scalar less)) (teller.keeps n rest.characters rest.rest))

  keeps_bytes : (n : ℕ) (bytes : List ℕ)
      → RestOfBytes rule Scalar encode Rest n (between start) bytes
      → Keeps n (run (byte_step rule step could see) (between start) bytes)
  keeps_bytes n bytes rest =
      elim (cases_order rule n) [
        | inl same ↦ low_bytes n (omega arith) bytes
        | inr other ↦
            (elim other [
              | inl less ↦ high_bytes n less bytes rest
              | inr more ↦
                  low_bytes n (omega arith) bytes
            ])
      ]

  full_bytes : rule < all → (bytes : List ℕ)
      → RestOfBytes rule Scalar encode Rest all (between start) bytes
      → (j : Inside S) × (run (byte_step rule step could see) (between start) bytes ≡ Ok j)
      × (byte_accepts accepts j ≡ true)
  full_bytes within bytes rest =
      let found = teller.full rest.characters rest.rest in
      let follows =
      text_follows rule teller.goes coding foresight rest.characters start teller.begins
      (rest.are_scalar within) in (
        between found.0,
        ap (λ l. run (byte_step rule step could see) (between start) l) (rest.encoded within)
            ∙ subst
            (λ o. Follows o
            (run (byte_step rule step could see) (between start)
            (flat_map encode rest.characters))) found.1 follows,
        found.2,
      )

  -- the machine over bytes tells the rule of the coding, and the rules of the machine over
  -- characters
  pub bytes_teller : rule < all
      → IsTeller (byte_step rule step could see) (between start) (byte_accepts accepts) all AnyByte
      (SoundInside see could Sound) (RestOfBytes rule Scalar encode Rest)
  bytes_teller within = record {
    begins = record { sound = teller.begins; opened = inl refl };
    goes = λ i j b sound takes. goes_bytes i j b sound takes;
    back = λ n i j b bytes sound takes rest. back_bytes n i j b bytes sound takes rest;
    done = λ i sound takes. done_bytes i sound takes;
    live = λ i sound. live_bytes i sound;
    tells = λ i b m sound any tells. tells_bytes i b m sound any tells;
    keeps = λ n bytes rest. keeps_bytes n bytes rest;
    full = λ bytes rest. full_bytes within bytes rest;
  }
