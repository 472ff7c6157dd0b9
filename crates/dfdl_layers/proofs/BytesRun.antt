-- A run over characters, and the run over the bytes of their coding.
use Rattle.std.proofs.Common.{◌≡◌, ℕ, ◌≤◌, List, [], ◌∷◌, ◌++◌, Option, Some, None, Result}
use Rattle.std.proofs.Common.{Ok, Err, refl, sym, subst, ◌∙◌, arith, append_assoc}
use Rattle.std.specs.List.{flat_map}
use Rattle.dfdl_layers.specs.Tellers.{Each, go_on, run, Keeps}
use Rattle.dfdl_layers.specs.Bytes.{Seen, Whole, Part, IsCoding, Inside, between, behind, waits}
use Rattle.dfdl_layers.specs.Bytes.{by_seen, byte_step, FailsBy, IsForesight}

-- the answer over bytes that stands for one over characters: the same state between two characters,
-- or no lower rule
abbrev pub Follows : {S : Type 0} → Result S ℕ → Result (Inside S) ℕ → Type 0
Follows (Ok t) q = q ≡ Ok (between t)
Follows (Err k) (Ok i) = ⊥
Follows (Err k) (Err m) = k ≤ m

-- the answer over the bytes of one character and of what comes behind it: that of what comes
-- behind, or no lower rule
abbrev Passes : {S : Type 0} → Result S ℕ → (S → Result (Inside S) ℕ) → Result (Inside S) ℕ → Type 0
Passes (Ok t) after q = q ≡ after t
Passes (Err k) after (Ok i) = ⊥
Passes (Err k) after (Err m) = k ≤ m

passes_failed : {S : Type 0} (r : Result S ℕ) (after : S → Result (Inside S) ℕ) (m : ℕ)
    → FailsBy m r → Passes r after (Err m)
passes_failed (Ok t) after m fails = absurd fails
passes_failed (Err k) after m fails = fails

passes_whole : {S : Type 0} (r : Result S ℕ) (next : Inside S → Result (Inside S) ℕ)
    → Passes r (λ t. next (between t)) (go_on next (behind r))
passes_whole (Ok t) next = refl
passes_whole (Err k) next = omega arith

passes_part : {S : Type 0} (r : Result S ℕ) (after : S → Result (Inside S) ℕ)
    (next : Inside S → Result (Inside S) ℕ) (s : S) (bytes : List ℕ) (o : Option ℕ)
    → (o ≡ None → Passes r after (next (record { state = s; read = bytes })))
    → ((m : ℕ) → o ≡ Some m → FailsBy m r)
    → Passes r after (go_on next (waits s bytes o))
passes_part r after next s bytes None goes fails = goes refl
passes_part r after next s bytes (Some m) goes fails = passes_failed r after m (fails m refl)

follows_passed : {S : Type 0} (r : Result S ℕ) (go : S → Result S ℕ)
    (after : S → Result (Inside S) ℕ) (q : Result (Inside S) ℕ)
    → Passes r after q → ((t : S) → r ≡ Ok t → Follows (go t) (after t)) → Follows (go_on go r) q
follows_passed (Ok t) go after q passes then =
    subst (λ a. Follows (go t) a) (sym passes) (then t refl)
follows_passed (Err k) go after (Ok i) passes then = passes
follows_passed (Err k) go after (Err m) passes then = passes

pub kept_following : {S : Type 0} (n : ℕ) (r : Result S ℕ) (q : Result (Inside S) ℕ) → Follows r q
    → Keeps n r → Keeps n q
kept_following n (Ok t) q follows kept = subst (λ a. Keeps n a) (sym follows) tt
kept_following n (Err k) (Ok i) follows kept = absurd follows
kept_following n (Err k) (Err m) follows kept = omega arith

module _ {S : Type 0} {step : S → ℕ → Result S ℕ} {Scalar : ℕ → Type 0} {encode : ℕ → List ℕ}
    {see : List ℕ → Seen} {could : S → List ℕ → Option ℕ} {Sound : S → Type 0} (rule : ℕ)
    (goes : (s t : S) (c : ℕ) → Sound s → step s c ≡ Ok t → Sound t)
    (coding : IsCoding Scalar encode see)
    (foresight : IsForesight step Scalar encode see could Sound) where
  -- over what is left of one character's bytes
  character_passes : (s : S) (c : ℕ) → Sound s → Scalar c
      → (front : List ℕ) (b : ℕ) (rest behind : List ℕ) → encode c ≡ front ++ b ∷ rest
      → Passes (step s c) (λ t. run (byte_step rule step could see) (between t) behind)
      (run (byte_step rule step could see) (record { state = s; read = front })
      (b ∷ (rest ++ behind)))
  character_passes s c sound scalar front b [] behind is =
      let seen : see (front ++ b ∷ []) ≡ Whole c = coding.seen c front b [] scalar is in
      subst (λ w. Passes (step s c) (λ t. run (byte_step rule step could see) (between t) behind)
      (go_on (λ i. run (byte_step rule step could see) i behind)
      (by_seen rule step could s (front ++ b ∷ []) w))) (sym seen)
      (passes_whole (step s c) (λ i. run (byte_step rule step could see) i behind))
  character_passes s c sound scalar front b (d ∷ rest) behind is =
      let seen : see (front ++ b ∷ []) ≡ Part = coding.seen c front b (d ∷ rest) scalar is in
      let more : encode c ≡ (front ++ b ∷ []) ++ d ∷ rest =
      is ∙ sym (append_assoc front (b ∷ []) (d ∷ rest)) in
      subst (λ w. Passes (step s c) (λ t. run (byte_step rule step could see) (between t) behind)
      (go_on (λ i. run (byte_step rule step could see) i (d ∷ (rest ++ behind)))
      (by_seen rule step could s (front ++ b ∷ []) w))) (sym seen)
      (passes_part (step s c) (λ t. run (byte_step rule step could see) (between t) behind)
      (λ i. run (byte_step rule step could see) i (d ∷ (rest ++ behind))) s (front ++ b ∷ [])
      (could s (front ++ b ∷ []))
      (λ none. character_passes s c sound scalar (front ++ b ∷ []) d rest behind more)
      (λ m tells. foresight.most s (front ++ b ∷ []) m c sound seen tells
      (record { scalar = scalar; rest = d ∷ rest; encoded = more })))

  -- over one character's bytes
  coded_passes : (s : S) (c : ℕ) → Sound s → Scalar c → (bytes behind : List ℕ) → encode c ≡ bytes
      → Passes (step s c) (λ t. run (byte_step rule step could see) (between t) behind)
      (run (byte_step rule step could see) (between s) (bytes ++ behind))
  coded_passes s c sound scalar [] behind is = absurd (coding.some c scalar is)
  coded_passes s c sound scalar (b ∷ rest) behind is =
      character_passes s c sound scalar [] b rest behind is

  -- over the bytes of characters
  pub text_follows : (characters : List ℕ) (s : S) → Sound s → Each Scalar characters
      → Follows (run step s characters)
      (run (byte_step rule step could see) (between s) (flat_map encode characters))
  text_follows [] s sound each = refl
  text_follows (c ∷ characters) s sound each =
      follows_passed (step s c) (λ t. run step t characters)
      (λ t. run (byte_step rule step could see) (between t) (flat_map encode characters))
      (run (byte_step rule step could see) (between s) (encode c ++ flat_map encode characters))
      (coded_passes s c sound each.0 (encode c) (flat_map encode characters) refl)
      (λ t is. text_follows characters t (goes s t c sound is) each.1)
