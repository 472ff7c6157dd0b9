-- A rule that only some items are allowed, before a machine that tells the rules behind it.
use Rattle.std.proofs.Common.{◌≡◌, ℕ, ◌<◌, ◌≤◌, ◌⊎◌, List, [], ◌∷◌, Bool, true, false}
use Rattle.std.proofs.Common.{if◌then◌else◌, refl, sym, subst, ◌∙◌, arith, inl, inr, Result, Ok}
use Rattle.std.proofs.Common.{Err}
use Rattle.std.proofs.lemmas.Bool.{cases_order}
use Rattle.dfdl_layers.specs.Tellers.{Each, go_on, run, Keeps, IsTeller}
use Rattle.dfdl_layers.specs.Allowed.{Allowed, GoodAllowed, allowed_step, RestOfAllowed}
use Rattle.dfdl_layers.proofs.Runs.{each-map}

allowed_ok : {S : Type 0} (b : Bool) (o : Result S ℕ) (rule : ℕ) (t : S)
    → (if b then o else Err rule) ≡ Ok t → (b ≡ true) × (o ≡ Ok t)
allowed_ok true o rule t is = (refl, is)
allowed_ok false o rule t is = absurd (cc)

allowed_err : {S : Type 0} (b : Bool) (o : Result S ℕ) (rule m : ℕ)
    → (if b then o else Err rule) ≡ Err m → ((b ≡ true) × (o ≡ Err m)) ⊎ (m ≡ rule)
allowed_err true o rule m is = inl (refl, is)
allowed_err false o rule m is = inr (cc)

module _ {S A : Type 0} (rule : ℕ) (is_allowed : A → Bool) (step : S → A → Result S ℕ) where
  allowed_same : (next : S → Result S ℕ) (other : S → Result S ℕ) → ((t : S) → next t ≡ other t)
      → (b : Bool) (o : Result S ℕ) → b ≡ true
      → go_on next (if b then o else Err rule) ≡ go_on other o
  allowed_same next other same true (Ok t) is = same t
  allowed_same next other same true (Err m) is = refl
  allowed_same next other same false o is = absurd (cc)

  -- over allowed items the two machines have one run
  same_run : (items : List A) (s : S) → Each (Allowed is_allowed) items
      → run (allowed_step rule is_allowed step) s items ≡ run step s items
  same_run [] s each = refl
  same_run (a ∷ items) s each =
      allowed_same (λ t. run (allowed_step rule is_allowed step) t items) (λ t. run step t items)
      (λ t. same_run items t each.1) (is_allowed a) (step s a) each.0

  lower_kept : (n : ℕ) → n ≤ rule → (next : S → Result S ℕ) (other : S → Result S ℕ)
      → ((t : S) → Keeps n (other t) → Keeps n (next t)) → (b : Bool) (o : Result S ℕ)
      → Keeps n (go_on other o) → Keeps n (go_on next (if b then o else Err rule))
  lower_kept n less next other follows true (Ok t) kept = follows t kept
  lower_kept n less next other follows true (Err m) kept = kept
  lower_kept n less next other follows false o kept = less

  -- where no rule below this one is told, none is told with it
  lower_keeps : (n : ℕ) → n ≤ rule → (items : List A) (s : S) → Keeps n (run step s items)
      → Keeps n (run (allowed_step rule is_allowed step) s items)
  lower_keeps n less [] s kept = tt
  lower_keeps n less (a ∷ items) s kept =
      lower_kept n less (λ t. run (allowed_step rule is_allowed step) t items)
      (λ t. run step t items) (λ t k. lower_keeps n less items t k) (is_allowed a)
      (step s a) kept

module _ {S A : Type 0} {step : S → A → Result S ℕ} {start : S} {accepts : S → Bool} {all : ℕ}
    {Good : A → Type 0} {Sound : S → Type 0} {Rest : ℕ → S → List A → Type 0}
    (rule : ℕ) (is_allowed : A → Bool) where
  keeps_allowed : ((n : ℕ) (s : S) (items : List A) → n ≤ rule → Rest n s items)
      → IsTeller step start accepts all (GoodAllowed is_allowed Good) Sound Rest
      → (n : ℕ) (items : List A) → RestOfAllowed rule is_allowed Rest n start items
      → Keeps n (run (allowed_step rule is_allowed step) start items)
  keeps_allowed free teller n items rest =
      elim (cases_order rule n) [
        | inl same ↦
            lower_keeps rule is_allowed step n (omega arith) items start
            (teller.keeps n items rest.rest)
        | inr other ↦ (elim other [
          | inl less ↦
              subst (λ o. Keeps n o)
              (sym (same_run rule is_allowed step items start (rest.allowed less)))
              (teller.keeps n items rest.rest)
          | inr more ↦
              lower_keeps rule is_allowed step n (omega arith) items start
              (teller.keeps n items rest.rest)
        ])
      ]

  tells_allowed : ((n : ℕ) (s : S) (items : List A) → n ≤ rule → Rest n s items)
      → IsTeller step start accepts all (GoodAllowed is_allowed Good) Sound Rest
      → (s : S) (a : A) (m : ℕ) → Sound s → Good a → allowed_step rule is_allowed step s a ≡ Err m
      → (more : List A) × Each Good more × RestOfAllowed rule is_allowed Rest m s (a ∷ more)
  tells_allowed free teller s a m sound good tells =
      elim (allowed_err (is_allowed a) (step s a) rule m tells) [
        | inl both ↦ (
            let found = teller.tells s a m sound (good, both.0) both.1 in (
              found.0,
              each-map (GoodAllowed is_allowed Good) Good (λ b g. g.0) found.0 found.1,
              record {
                allowed =
                    λ less. (
                      both.0,
                      each-map (GoodAllowed is_allowed Good) (Allowed is_allowed)
                          (λ b g. g.1) found.0 found.1,
                    );
                rest = found.2;
              },
            ))
        | inr same ↦ (
          [],
          tt,
          record
              { allowed = λ less. absurd (omega arith); rest = free m s (a ∷ []) (omega arith) },
        )
      ]

  -- the machine with the rule tells it, and the rules behind it
  pub allowed_teller : rule < all → ((n : ℕ) (s : S) (items : List A) → n ≤ rule → Rest n s items)
      → IsTeller step start accepts all (GoodAllowed is_allowed Good) Sound Rest
      → IsTeller (allowed_step rule is_allowed step) start accepts all Good Sound
      (RestOfAllowed rule is_allowed Rest)
  allowed_teller within free teller = record {
    begins = teller.begins;
    goes = λ s t a sound goes. teller.goes s t a sound
        (allowed_ok (is_allowed a) (step s a) rule t goes).1;
    back = λ n s t a items sound goes rest. (
        let both = allowed_ok (is_allowed a) (step s a) rule t goes in
        record {
          allowed = λ less. (both.0, rest.allowed less);
          rest = teller.back n s t a items sound both.1 rest.rest;
        });
    done = λ s sound takes. record { allowed = λ less. tt; rest = teller.done s sound takes };
    live = λ s sound. (
        let more = teller.live s sound in (
          more.0,
          each-map (GoodAllowed is_allowed Good) Good (λ b g. g.0) more.0 more.1,
          record {
            allowed =
                λ less. each-map (GoodAllowed is_allowed Good) (Allowed is_allowed)
                (λ b g. g.1) more.0 more.1;
            rest = more.2;
          },
        ));
    tells = tells_allowed free teller;
    keeps = keeps_allowed free teller;
    full = λ items rest. (
        let found = teller.full items rest.rest in (
          found.0,
          same_run rule is_allowed step items start (rest.allowed within)
              ∙ found.1,
          found.2,
        ));
  }
