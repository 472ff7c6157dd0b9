-- A value that is begun can be ended, so that its tag has the attribute and is sound.
use Rattle.std.proofs.Common.{◌≡◌, ℕ, zero, suc, ◌<◌, ◌≤◌, ◌==◌, Bool, true, false, List, [], ◌∷◌}
use Rattle.std.proofs.Common.{◌++◌}
use Rattle.std.proofs.Common.{length, map, drop, Option, Some, None, refl, ap, sym, subst, ◌∙◌}
use Rattle.std.proofs.Common.{arith}
use Rattle.std.proofs.Common.{option_and_then}
use Rattle.std.proofs.lemmas.Bool.{and_from, eq-eqb}
use Rattle.std.proofs.lemmas.Bool.Decides.{nat_tests}
use Rattle.std.proofs.lemmas.List.{map-append, length-append}
use Rattle.dfdl_layers.specs.Tellers.{Each}
use Rattle.dfdl_markup.specs.Grammar.{is_quote, Item, Letter}
use Rattle.dfdl_markup.specs.Values.{items_read, ends_in_cr, declares, fixed_namespace}
use Rattle.dfdl_markup.specs.Values.{bindings_of}
use Rattle.dfdl_markup.specs.Rules.{ItemKeeps}
use Rattle.dfdl_markup.specs.Machine.{OpenValue, AtValue, AtTag, with_text, begins}
use Rattle.dfdl_markup.specs.Machine.{fixed_value, may_close}
use Rattle.dfdl_markup.proofs.Rest.{ReadAs, WroteValue}
use Rattle.dfdl_markup.proofs.Sound.{MayStand, SoundTag, SoundName, KeepsFixed}
use Rattle.dfdl_markup.proofs.Answers.{Good}
use Rattle.dfdl_markup.proofs.Closing.{good_low}
use Rattle.dfdl_markup.proofs.TagNamespaces.{alike_of, IsNewBinding}
use Rattle.dfdl_markup.proofs.TagNamespaces.{some_is}
use Rattle.dfdl_markup.proofs.TagFixed.{ArePlain, plain_fixed, plain_good, plain_value, fixed_new}
use Rattle.dfdl_markup.proofs.TagFixed.{reach}
use Rattle.dfdl_markup.proofs.TagFixed.{reach_least, longer_new, may_bind_long, letters}
use Rattle.dfdl_markup.proofs.TagFixed.{letters_length, letters_plain, begun_rest, plain_part}
use Rattle.dfdl_markup.proofs.TagValues.{read_on, ends_on, letters_read, letters_written, not_white}
use Rattle.dfdl_markup.proofs.TagValues.{value_grows, with_attribute}
use Rattle.dfdl_markup.proofs.TagSound.{IsNewOf, sound_with}
use Rattle.dfdl_markup.proofs.TagSteps.{Reaches, reaches_on, value_closed}

pub good_plain : (text : List ℕ) → ArePlain text → Each Good text
good_plain [] plain = tt
good_plain (c ∷ text) plain = (plain_good c plain.0, good_plain text plain.1)

-- letters are items of a value
pub items_keep : (n quote : ℕ) (text : List ℕ) → is_quote quote ≡ true → ArePlain text
    → Each (ItemKeeps n quote) (map Letter text)
items_keep n quote [] quotes plain = tt
items_keep n quote (c ∷ text) quotes plain =
    (plain_value quote c quotes plain.0, items_keep n quote text quotes plain.1)

begins_self : (text : List ℕ) → begins text text ≡ true
begins_self [] = refl
begins_self (c ∷ text) = and_from (c == c) (begins text text) (eq-eqb c c refl) (begins_self text)

no_cr : (n : ℕ) → ends_in_cr false (map Letter (letters n)) ≡ false
no_cr zero = refl
no_cr (suc n) = no_cr n

letters_end : (behind : Bool) (n : ℕ) → 0 < n → ends_in_cr behind (map Letter (letters n)) ≡ false
letters_end behind zero some = absurd (omega arith)
letters_end behind (suc n) some = no_cr n

-- plain characters behind what was read of a value
plain_grows : (n : ℕ) (v : OpenValue) (raw more : List ℕ) (w : WroteValue n v raw) → ArePlain more
    → ReadAs (fixed_value v.name) (with_text v more false) (w.items ++ map Letter more)
    → WroteValue n (with_text v more false) (raw ++ more)
plain_grows n v raw more w plain read =
    subst (λ l. WroteValue n (with_text v more false) (raw ++ l)) (letters_written more)
    (value_grows n v raw w (map Letter more) more false (items_keep n v.quote more w.quote plain)
    read)

read_letters : (o : Option (List ℕ)) (v : OpenValue) (items : List Item) (k : ℕ) → 0 < k → o ≡ None
    → ReadAs o v items → ReadAs o (with_text v (letters k) false) (items ++ map Letter (letters k))
read_letters (Some fixed) v items k some none read = absurd (cc)
read_letters None v items k some none read = (
  read_on false items (map Letter (letters k))
      ∙ ap (λ l. items_read false items ++ l)
      (letters_read (ends_in_cr false items) (letters k) (not_white (letters k) (letters_plain k)))
      ∙ ap (λ l. l ++ letters k) read.0,
  ends_on false items (map Letter (letters k))
      ∙ letters_end (ends_in_cr false items) k some,
)

read_fixed : (o : Option (List ℕ)) (f : List ℕ) (v : OpenValue) (items : List Item) (more : List ℕ)
    → v.text ++ more ≡ f → o ≡ Some f
    → ReadAs o v items → ReadAs o (with_text v more false) (items ++ map Letter more)
read_fixed None f v items more is some read = absurd (cc)
read_fixed (Some g) f v items more is some read = (
  ap (λ l. l ++ map Letter more) read.0 ∙ sym (map-append Letter v.text more),
  ap (begins (v.text ++ more)) (some_is g f some ∙ sym is) ∙ begins_self (v.text ++ more),
)

-- characters behind which a value may be closed
pub record ValueEnd (v : OpenValue) : Type 0 where
  pub more : List ℕ
  pub good : Each Good more
  pub grows : (n : ℕ) (raw : List ℕ) → WroteValue n v raw
      → WroteValue n (with_text v more false) (raw ++ more)
  pub may : may_close (declares v.name) (fixed_value v.name) (v.text ++ more) ≡ true
  pub new : IsNewOf (declares v.name) (v.text ++ more) (bindings_of v.tag.attributes)

module _ (v : OpenValue) (binds : Each MayStand v.tag.attributes) where
  long_text : reach (bindings_of v.tag.attributes)
      ≤ length (v.text ++ letters (reach (bindings_of v.tag.attributes)))
  long_text =
      let k = letters_length (reach (bindings_of v.tag.attributes)) in
      let all = length-append v.text (letters (reach (bindings_of v.tag.attributes))) in
      omega (arith, k, all)

  free_may : (o : Option (List ℕ))
      → may_close o None (v.text ++ letters (reach (bindings_of v.tag.attributes))) ≡ true
  free_may None = refl
  free_may (Some prefix) =
      may_bind_long prefix (v.text ++ letters (reach (bindings_of v.tag.attributes)))
      (omega (arith, long_text, reach_least (bindings_of v.tag.attributes)))

  free_new : (o : Option (List ℕ))
      → IsNewOf o (v.text ++ letters (reach (bindings_of v.tag.attributes)))
      (bindings_of v.tag.attributes)
  free_new None = tt
  free_new (Some prefix) =
      longer_new prefix (v.text ++ letters (reach (bindings_of v.tag.attributes)))
      (bindings_of v.tag.attributes) long_text

  ended_free : fixed_value v.name ≡ None → ValueEnd v
  ended_free none = record {
    more = letters (reach (bindings_of v.tag.attributes));
    good = good_plain (letters (reach (bindings_of v.tag.attributes)))
        (letters_plain (reach (bindings_of v.tag.attributes)));
    grows = λ n raw w. plain_grows n v raw (letters (reach (bindings_of v.tag.attributes))) w
        (letters_plain (reach (bindings_of v.tag.attributes)))
        (read_letters (fixed_value v.name) v w.items (reach (bindings_of v.tag.attributes))
        (omega (arith, reach_least (bindings_of v.tag.attributes))) none w.read);
    may = ap (λ o. may_close (declares v.name) o
        (v.text ++ letters (reach (bindings_of v.tag.attributes)))) none
        ∙ free_may (declares v.name);
    new = free_new (declares v.name);
  }

  fixed_may : (o : Option (List ℕ)) (f text : List ℕ) → text ≡ f → may_close o (Some f) text ≡ true
  fixed_may None f text is = refl
  fixed_may (Some prefix) f text is = alike_of text f is

  fixed_is_new : (o : Option (List ℕ)) (f text : List ℕ) → option_and_then fixed_namespace o ≡ Some
      f
      → text ≡ f → IsNewOf o text (bindings_of v.tag.attributes)
  fixed_is_new None f text is same = tt
  fixed_is_new (Some prefix) f text is same =
      subst (λ u. Each (IsNewBinding prefix u) (bindings_of v.tag.attributes)) (sym same)
      (fixed_new prefix f v.tag.attributes is binds)

  fixed_plain : (o : Option (List ℕ)) (f : List ℕ) → option_and_then fixed_namespace o ≡ Some f
      → ArePlain f
  fixed_plain None f is = absurd (cc)
  fixed_plain (Some prefix) f is = plain_fixed prefix f is

  ended_fixed : (f : List ℕ) → fixed_value v.name ≡ Some f → begins v.text f ≡ true → ValueEnd v
  ended_fixed f fixed begun =
      let is : v.text ++ drop (length v.text) f ≡ f = begun_rest v.text f begun in
      let plain : ArePlain (drop (length v.text) f) =
      plain_part _ v.text (drop (length v.text) f)
      (subst ArePlain (sym is) (fixed_plain (declares v.name) f fixed)) in
      record {
        more = drop (length v.text) f;
        good = good_plain (drop (length v.text) f) plain;
        grows = λ n raw w. plain_grows n v raw (drop (length v.text) f) w plain
            (read_fixed (fixed_value v.name) f v w.items (drop (length v.text) f) is fixed w.read);
        may = ap (λ o. may_close (declares v.name) o (v.text ++ drop (length v.text) f)) fixed
            ∙ fixed_may (declares v.name) f (v.text ++ drop (length v.text) f) is;
        new = fixed_is_new (declares v.name) f (v.text ++ drop (length v.text) f) fixed is;
      }

  ended_by : (o : Option (List ℕ)) → fixed_value v.name ≡ o → KeepsFixed o v.text → ValueEnd v
  ended_by None is keeps = ended_free is
  ended_by (Some f) is keeps = ended_fixed f is keeps

  pub value_ends : KeepsFixed (fixed_value v.name) v.text → ValueEnd v
  value_ends keeps = ended_by (fixed_value v.name) refl keeps

-- the tag has the attribute behind them and the closing quote
pub value_reaches : (v : OpenValue) (e : ValueEnd v)
    → Reaches (AtValue v) (AtTag (with_attribute v.tag v.name (v.text ++ e.more)) false)
    (e.more ++ v.quote ∷ [])
value_reaches v e =
    reaches_on (AtValue v) (AtValue (with_text v e.more false))
    (AtTag (with_attribute v.tag v.name (v.text ++ e.more)) false) e.more (v.quote ∷ [])
    (λ n want raw w. e.grows n raw w) (value_closed (with_text v e.more false) e.may)

-- and is sound, where its name is new
pub value_sound : (v : OpenValue) → SoundName v.tag v.name → (e : ValueEnd v)
    → SoundTag (with_attribute v.tag v.name (v.text ++ e.more))
value_sound v sound e = sound_with v.tag v.name (v.text ++ e.more) sound e.may e.new

quote_between : (quote : ℕ) → is_quote quote ≡ true → (32 ≤ quote) × (quote < 128)
unfolding is_quote
quote_between quote is = (grind (arith, nat_tests), grind (arith, nat_tests))

pub good_quote : (quote : ℕ) → is_quote quote ≡ true → Good quote
good_quote quote is = let between = quote_between quote is in good_low quote between.0 between.1
