-- What is given is what the writers write.
use Rattle.std.proofs.Common.{◌≡◌, refl, sym, ap, subst, ◌∙◌, ℕ, List, [], ◌∷◌, ◌++◌, Option, Some, None, Bool, true, false, cond, if◌then◌else◌, ◌&&◌, not, is_some, bytes_eq, codes, encode_utf8_all, inl, inr}
use Rattle.std.specs.List.{find, flat_map}
use Rattle.std.specs.Option.{option_or}
use Rattle.std.proofs.lemmas.List.Concat.{flat_map-cons}
use Rattle.std.proofs.lemmas.Slice.Eq.{bytes_eq-Decides}
use Rattle.dfdl_markup.specs.Trees.{Node, node_at, attribute_namespace_at, local_part}
use Rattle.dfdl_markup.specs.Values.{Attribute}
use Rattle.dfdl_constructs.specs.Elements.{dfdl_namespace, dfdl_of, has, is_attribute, is_declaration, plain_of, value_among}
use Rattle.dfdl_components.specs.Globals.{is_text}
use Rattle.dfdl_scope.specs.Table.{is_property}
use Rattle.dfdl_properties.specs.Forms.{among_attributes, attribute_form, by_element, children_of, element_form, if_property, is_written_property, short_form, trimmed, written_by, written_in}
use Rattle.dfdl_properties.specs.Own.{format_given_at, given_at, in_annotation, in_annotations, in_information, is_annotation, is_component_properties, is_dfdl_information}
use Rattle.dfdl_properties.specs.Written.{Written, first_of}
use Rattle.dfdl_references.specs.References.{first_found}
use Rattle.dfdl_references.specs.Writers.{is_called, own_writer, property_in, writer_in, writer_in_annotation, writer_in_annotations, writer_in_information}
use Rattle.dfdl_references.specs.Agreeing.{IsWrittenAt, Writes}

-- the first value of a name in one list before another
first-both : (xs ys : List Written) (name : List ℕ) → first_of (xs ++ ys) name ≡ option_or (first_of xs name) (first_of ys name)
first-both [] ys name = refl
first-both (x ∷ xs) ys name = by (bytes_eq x.name name) (first-both xs ys name)
  where
    by : (b : Bool) → first_of (xs ++ ys) name ≡ option_or (first_of xs name) (first_of ys name)
        → (if b then Some x.value else first_of (xs ++ ys) name) ≡ option_or (if b then Some x.value else first_of xs name) (first_of ys name)
    by true others = refl
    by false others = others

-- the first that passes a test is the first that is found where each is found that passes it
found-is : (test : ℕ → Bool) (xs : List ℕ) → find test xs ≡ first_found (λ x. if test x then Some x else None) xs
found-is test [] = refl
found-is test (x ∷ xs) = by (test x) (found-is test xs)
  where
    by : (b : Bool) → find test xs ≡ first_found (λ y. if test y then Some y else None) xs
        → cond b (Some x) (find test xs) ≡ option_or (if b then Some x else None) (first_found (λ y. if test y then Some y else None) xs)
    by true others = refl
    by false others = others

-- one that is there by a test, or another
or-if : (b : Bool) (e : ℕ) (other : Option ℕ) → (if b then Some e else other) ≡ option_or (if b then Some e else None) other
or-if true e other = refl
or-if false e other = refl

-- the first value of a name, where a test lets a property stand before others
first-if : (name : List ℕ) (b : Bool) (w : Written) (ws : List Written)
    → first_of (if b then w ∷ ws else ws) name ≡ (if b then (if bytes_eq w.name name then Some w.value else first_of ws name) else first_of ws name)
first-if name true w ws = refl
first-if name false w ws = refl

-- the tests at an attribute: whether it is a declaration, has the name and the namespace, and is a property's
same-tests : (d l s p : Bool) → (l ≡ true → p ≡ true) → (value : List ℕ) (x y : Option (List ℕ)) → x ≡ y
    → (if not d && (p && s) then (if l then Some value else x) else x) ≡ (if not d && (l && s) then Some value else y)
same-tests true l s p known value x y same = same
same-tests false true true true known value x y same = refl
same-tests false true false true known value x y same = same
same-tests false true s false known value x y same = absurd (let no = known refl in cc)
same-tests false false true true known value x y same = same
same-tests false false false true known value x y same = same
same-tests false false s false known value x y same = same

module _ (nodes : List Node) (name : List ℕ) (is : is_property name ≡ true) where
  -- a text that is the name is a property's
  known : (text : List ℕ) → bytes_eq text name ≡ true → is_property text ≡ true
  known text same = subst (λ (t : List ℕ). is_property t ≡ true) (sym ((bytes_eq-Decides text name).0 same)) is

  -- given by one, else by another
  either : (a b : Option (List ℕ)) (x y : Option ℕ) → IsWrittenAt nodes name a x → IsWrittenAt nodes name b y
      → IsWrittenAt nodes name (option_or a b) (option_or x y)
  either None b None y one other = other
  either (Some a) b (Some x) y one other = one
  either None b (Some x) y one other = absurd one
  either (Some a) b None y one other = absurd one

  -- given by the first of some
  among : (f : ℕ → List Written) (g : ℕ → Option ℕ) → ((x : ℕ) → IsWrittenAt nodes name (first_of (f x) name) (g x)) → (xs : List ℕ)
      → IsWrittenAt nodes name (first_of (flat_map f xs) name) (first_found g xs)
  among f g each [] = tt
  among f g each (x ∷ xs) =
      subst (λ (o : Option (List ℕ)). IsWrittenAt nodes name o (option_or (g x) (first_found g xs)))
      (sym (ap (λ (ws : List Written). first_of ws name) (flat_map-cons f x xs) ∙ first-both (f x) (flat_map f xs) name))
      (either (first_of (f x) name) (first_of (flat_map f xs) name) (g x) (first_found g xs) (each x) (among f g each xs))

  -- what attributes give
  by-attributes : (e : ℕ) (namespace : List ℕ) (attributes : List Attribute)
      → first_of (among_attributes nodes e namespace attributes) name ≡ value_among (is_attribute nodes e namespace name) attributes
  by-attributes e namespace [] = refl
  by-attributes e namespace (a ∷ others) =
      first-if name _ (written_by a) (among_attributes nodes e namespace others)
      ∙ same-tests (is_declaration a) (bytes_eq (encode_utf8_all (local_part a.name)) name)
      (bytes_eq (encode_utf8_all (attribute_namespace_at nodes e a.name)) namespace) (is_property (encode_utf8_all (local_part a.name)))
      (known (encode_utf8_all (local_part a.name))) (encode_utf8_all a.value) _ _ (by-attributes e namespace others)

  -- what an attribute gives that may be lacking
  at-itself : (e : ℕ) (o : Option (List ℕ)) → ((value : List ℕ) → o ≡ Some value → Writes nodes name value e)
      → IsWrittenAt nodes name o (if is_some o then Some e else None)
  at-itself e None each = tt
  at-itself e (Some value) each = each value refl

  -- what a `dfdl:property` gives
  by-property : (p : ℕ) → IsWrittenAt nodes name (first_of (by_element nodes p) name) (if is_called nodes name p then Some p else None)
  by-property p = by (plain_of nodes p (codes "name")) refl
    where
      value : List ℕ
      value = trimmed (encode_utf8_all (node_at nodes p).text)

      tested : (b q : Bool) → (b ≡ true → q ≡ true) → (b ≡ true → Writes nodes name value p)
          → IsWrittenAt nodes name (if q then (if b then Some value else None) else None) (if b then Some p else None)
      tested true true known writes = writes refl
      tested true false known writes = absurd (let no = known refl in cc)
      tested false true known writes = tt
      tested false false known writes = tt

      by : (o : Option (List ℕ)) → plain_of nodes p (codes "name") ≡ o
          → IsWrittenAt nodes name (first_of (if_property o value) name) (if is_text name o then Some p else None)
      by None here = tt
      by (Some text) here =
          subst (λ (o : Option (List ℕ)). IsWrittenAt nodes name o (if bytes_eq text name then Some p else None))
          (sym (first-if name (is_property text) (record { name = text; value = value }) []))
          (tested (bytes_eq text name) (is_property text) (known text) (λ same. inr (inr (ap (is_text name) here ∙ same, refl))))

  -- what an annotation element, or a format, gives
  in-element : (e : ℕ) → IsWrittenAt nodes name (first_of (written_in nodes e) name) (writer_in nodes name e)
  in-element e =
      subst (λ (o : Option (List ℕ)). IsWrittenAt nodes name o (writer_in nodes name e)) (sym (first-both (attribute_form nodes e) (element_form nodes e) name))
      (subst (λ (w : Option ℕ). IsWrittenAt nodes name (option_or (first_of (attribute_form nodes e) name) (first_of (element_form nodes e) name)) w)
      (sym (or-if (has nodes e name) e (property_in nodes name e)))
      (either (first_of (attribute_form nodes e) name) (first_of (element_form nodes e) name) (if has nodes e name then Some e else None) (property_in nodes name e)
      (subst (λ (o : Option (List ℕ)). IsWrittenAt nodes name o (if has nodes e name then Some e else None))
      (sym (by-attributes e [] (node_at nodes e).attributes)) (at-itself e (plain_of nodes e name) (λ value here. inr (inl here))))
      (subst (λ (w : Option ℕ). IsWrittenAt nodes name (first_of (element_form nodes e) name) w)
      (sym (found-is (is_called nodes name) (children_of nodes is_written_property e)))
      (among (by_element nodes) (λ p. if is_called nodes name p then Some p else None) by-property (children_of nodes is_written_property e)))))

  -- what the annotations of a component give
  in-information : (e : ℕ) → IsWrittenAt nodes name (first_of (in_information nodes e) name) (writer_in_information nodes name e)
  in-information e = among (written_in nodes) (writer_in nodes name) in-element (children_of nodes is_component_properties e)

  in-annotation : (e : ℕ) → IsWrittenAt nodes name (first_of (in_annotation nodes e) name) (writer_in_annotation nodes name e)
  in-annotation e = among (in_information nodes) (writer_in_information nodes name) in-information (children_of nodes is_dfdl_information e)

  in-annotations : (e : ℕ) → IsWrittenAt nodes name (first_of (in_annotations nodes e) name) (writer_in_annotations nodes name e)
  in-annotations e = among (in_annotation nodes) (writer_in_annotation nodes name) in-annotation (children_of nodes is_annotation e)

  -- what a component gives
  in-component : (e : ℕ) → IsWrittenAt nodes name (given_at nodes e name) (own_writer nodes name e)
  in-component e =
      subst (λ (o : Option (List ℕ)). IsWrittenAt nodes name o (own_writer nodes name e)) (sym (first-both (short_form nodes e) (in_annotations nodes e) name))
      (subst (λ (w : Option ℕ). IsWrittenAt nodes name (option_or (first_of (short_form nodes e) name) (first_of (in_annotations nodes e) name)) w)
      (sym (or-if (is_some (dfdl_of nodes e name)) e (writer_in_annotations nodes name e)))
      (either (first_of (short_form nodes e) name) (first_of (in_annotations nodes e) name) (if is_some (dfdl_of nodes e name) then Some e else None) (writer_in_annotations nodes name e)
      (subst (λ (o : Option (List ℕ)). IsWrittenAt nodes name o (if is_some (dfdl_of nodes e name) then Some e else None))
      (sym (by-attributes e dfdl_namespace (node_at nodes e).attributes)) (at-itself e (dfdl_of nodes e name) (λ value here. inl here)))
      (in-annotations e)))

pub own_agrees : (nodes : List Node) (name : List ℕ) (component : ℕ) → is_property name ≡ true
    → IsWrittenAt nodes name (given_at nodes component name) (own_writer nodes name component)
own_agrees nodes name component is = in-component nodes name is component

pub format_agrees : (nodes : List Node) (name : List ℕ) (format : ℕ) → is_property name ≡ true
    → IsWrittenAt nodes name (format_given_at nodes format name) (writer_in nodes name format)
format_agrees nodes name format is = in-element nodes name is format
