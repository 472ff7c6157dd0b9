-- Names as far as they were read.
use Rattle.std.proofs.Common.{◌≡◌, ℕ, ◌==◌, true, List, [], ◌∷◌, ◌++◌, Option, Some, None}
use Rattle.std.proofs.Common.{if◌then◌else◌, refl, ap, sym, subst, append_assoc}
use Rattle.std.proofs.lemmas.Bool.{cond_both, eqb-true}
use Rattle.dfdl_xml_chars.specs.Characters.{is_name_start, is_name_char}
use Rattle.dfdl_markup.specs.Grammar.{Name, name_characters}
use Rattle.dfdl_markup.specs.Rules.{IsPart, IsName}
use Rattle.dfdl_markup.specs.Machine.{Reading, First, Colon, Second, name_next, whole_name}
use Rattle.dfdl_markup.proofs.Rest.{reading_characters, IsReading}
use Rattle.dfdl_markup.proofs.Closing.{each_append}

some_is : {A : Type 0} (a b : A) → Some a ≡ Some b → a ≡ b
some_is a b e = cc

-- one more character of a part
pub part_on : (part : List ℕ) (c : ℕ) → IsPart part → is_name_char c ≡ true
    → IsPart (part ++ c ∷ [])
part_on [] c is char = absurd is
part_on (d ∷ part) c is char =
    (is.0, each_append (λ e. is_name_char e ≡ true) part (c ∷ []) is.1 (char, tt))

-- a name that goes on has the character behind what was read
pub record GoesOnBy (reading : Reading) (c : ℕ) (next : Reading) : Type 0 where
  pub characters : reading_characters next ≡ reading_characters reading ++ c ∷ []
  pub is : IsReading reading → IsReading next

pub next_name : (reading : Reading) (c : ℕ) (next : Reading) → name_next reading c ≡ Some next
    → GoesOnBy reading c next
unfolding name_next
next_name (First part) c next =
    cond_both (is_name_char c) (Some (First (part ++ c ∷ [])))
    (if c == 58 then Some (Colon part) else None)
    (λ (o : Option Reading). o ≡ Some next → GoesOnBy (First part) c next)
    (λ char is. subst (GoesOnBy (First part) c) (some_is _ _ is)
    (record { characters = refl; is = λ reading. part_on part c reading char }))
    (λ char. cond_both (c == 58) (Some (Colon part)) None
    (λ (o : Option Reading). o ≡ Some next → GoesOnBy (First part) c next)
    (λ colon is. subst (GoesOnBy (First part) c) (some_is _ _ is)
    (record {
      characters = ap (λ d. part ++ d ∷ [])
          (sym (eqb-true c 58 colon));
      is = λ reading. reading;
    }))
    (λ colon is. absurd (cc)))
next_name (Colon prefix) c next =
    cond_both (is_name_start c) (Some (Second prefix (c ∷ []))) None
    (λ (o : Option Reading). o ≡ Some next → GoesOnBy (Colon prefix) c next)
    (λ start is. subst (GoesOnBy (Colon prefix) c) (some_is _ _ is)
    (record {
      characters = sym (append_assoc prefix (58 ∷ []) (c ∷ []));
      is = λ reading. (reading, (start, tt));
    }))
    (λ start is. absurd (cc))
next_name (Second prefix part) c next =
    cond_both (is_name_char c) (Some (Second prefix (part ++ c ∷ []))) None
    (λ (o : Option Reading). o ≡ Some next → GoesOnBy (Second prefix part) c next)
    (λ char is. subst (GoesOnBy (Second prefix part) c) (some_is _ _ is)
    (record {
      characters = sym (append_assoc prefix (58 ∷ part) (c ∷ []));
      is = λ reading. (reading.0, part_on part c reading.1 char);
    }))
    (λ char is. absurd (cc))

-- the name that was read whole
pub record EndsAs (reading : Reading) (name : Name) : Type 0 where
  pub characters : name_characters name ≡ reading_characters reading
  pub is : IsReading reading → IsName name

pub read_name : (reading : Reading) (name : Name) → whole_name reading ≡ Some name
    → EndsAs reading name
read_name (First part) name is =
    subst (EndsAs (First part)) (some_is _ _ is) (record
    { characters = refl; is = λ reading. reading })
read_name (Colon prefix) name is = absurd (cc)
read_name (Second prefix part) name is =
    subst (EndsAs (Second prefix part)) (some_is _ _ is)
    (record { characters = refl; is = λ reading. reading })
