-- The formats of a schema that keeps the rules in the order of its elements.
use Rattle.std.proofs.Common.{◌≡◌, refl, sym, ap, subst, ◌∙◌, ℕ, zero, suc, ◌+◌, ◌<◌, List, [], ◌∷◌, length, get_or, All, Contains, Option, Some, None, option_map, option_to_list, Bool, true, false, if◌then◌else◌, codes, arith}
use Rattle.std.specs.List.{flat_map}
use Rattle.std.proofs.lemmas.Bool.{lt-ltb}
use Rattle.std.proofs.lemmas.List.{get_or-map, length-map}
use Rattle.std.proofs.lemmas.List.Concat.{flat_map-cons}
use Rattle.std.proofs.lemmas.List.Elements.{All-nil, All-cons, All-contains, Contains-append_left, Contains-append_right}
use Rattle.dfdl_markup.specs.Trees.{node_at}
use Rattle.dfdl_constructs.specs.declared.role.Role.{Role}
use Rattle.dfdl_constructs.specs.declared.role.Role.TheVariants as role
use Rattle.dfdl_documents.specs.Documents.{SchemaDocument}
use Rattle.dfdl_order.specs.Parts.{IsOrder, Places, uses_of}
use Rattle.dfdl_components.specs.declared.kind.ComponentKind.TheVariants as kind
use Rattle.dfdl_components.specs.declared.named.Named.{Named}
use Rattle.dfdl_components.specs.declared.site.Site.{Site}
use Rattle.dfdl_components.specs.Recursion.{all_uses, component_numbers, count_of, if_element, naming_properties, number_inside, number_of, numbers_named, numbers_referred, parts_of, start_of}
use Rattle.dfdl_components.specs.References.{Referring, Plain, referring}
use Rattle.dfdl_components.specs.Sites.{IsSite, nodes_of, role_of}
use Rattle.dfdl_properties.specs.Formats as formats
use Rattle.dfdl_chains.specs.Everywhere.{all_sites, for_each}
use Rattle.dfdl_references.proofs.Found.{IsAfter, IsDefined, is-after}
use Rattle.dfdl_breaches.proofs.Numbering.{IsNumbered, length-sites, number-below, numbered, uses-each, value-at}
use Rattle.dfdl_references.specs.References.{format_after, is_format}
use Rattle.dfdl_breaches.specs.Tabled.{number_after}

-- what is in a list that a function gives is in all of them
in-flat : {X : Type 0} (f : X → List ℕ) (xs : List X) (x : X) (n : ℕ) → Contains xs x → Contains (f x) n → Contains (flat_map f xs) n
in-flat f [] x n has of = absurd (let low = has.1 in omega (arith, low))
in-flat f (y ∷ xs) x n (zero, low, same) of =
    subst (λ (ys : List ℕ). Contains ys n) (sym (flat_map-cons f y xs))
    (Contains-append_left (f y) (flat_map f xs) n (subst (λ z. Contains (f z) n) (sym same) of))
in-flat f (y ∷ xs) x n (suc k, low, same) of =
    subst (λ (ys : List ℕ). Contains ys n) (sym (flat_map-cons f y xs))
    (Contains-append_right (f y) (flat_map f xs) n (in-flat f xs x n (k, omega (arith, low), same) of))

-- a number is in the list of it alone
in-one : (n : ℕ) → Contains (n ∷ []) n
in-one n = (zero, omega arith, refl)

module _ (documents : List SchemaDocument) where
  -- a number of an element is taken
  taken : (n : ℕ) → n < count_of documents → if_element documents n ≡ n ∷ []
  taken n low = ap (λ b. if b then n ∷ [] else []) (lt-ltb n (count_of documents) low)

  -- the attributes of a format that refer to components
  refers-by : (r : Role) → is_format r ≡ true → referring r ≡ Plain (codes "ref") kind.Format ∷ []
  unfolding referring
  refers-by role.DefaultFormat is = refl
  refers-by role.DefinedFormat is = refl
  refers-by role.Schema is = absurd (grind (arith, is))
  refers-by role.DefineFormat is = absurd (grind (arith, is))
  refers-by role.Include is = absurd (grind (arith, is))
  refers-by role.Import is = absurd (grind (arith, is))
  refers-by role.GlobalElement is = absurd (grind (arith, is))
  refers-by role.LocalElement is = absurd (grind (arith, is))
  refers-by role.ElementReference is = absurd (grind (arith, is))
  refers-by role.GlobalComplexType is = absurd (grind (arith, is))
  refers-by role.LocalComplexType is = absurd (grind (arith, is))
  refers-by role.GlobalSimpleType is = absurd (grind (arith, is))
  refers-by role.LocalSimpleType is = absurd (grind (arith, is))
  refers-by role.Restriction is = absurd (grind (arith, is))
  refers-by role.MinLength is = absurd (grind (arith, is))
  refers-by role.MaxLength is = absurd (grind (arith, is))
  refers-by role.Facet is = absurd (grind (arith, is))
  refers-by role.GlobalGroup is = absurd (grind (arith, is))
  refers-by role.GroupReference is = absurd (grind (arith, is))
  refers-by role.Sequence is = absurd (grind (arith, is))
  refers-by role.Choice is = absurd (grind (arith, is))
  refers-by role.Information is = absurd (grind (arith, is))
  refers-by role.DefineEscapeScheme is = absurd (grind (arith, is))
  refers-by role.EscapeScheme is = absurd (grind (arith, is))
  refers-by role.DefineVariable is = absurd (grind (arith, is))
  refers-by role.ComponentProperties is = absurd (grind (arith, is))
  refers-by role.Property is = absurd (grind (arith, is))
  refers-by role.Assert is = absurd (grind (arith, is))
  refers-by role.Discriminator is = absurd (grind (arith, is))
  refers-by role.SetVariable is = absurd (grind (arith, is))
  refers-by role.NewVariableInstance is = absurd (grind (arith, is))
  refers-by role.OutsideSubset is = absurd (grind (arith, is))
  refers-by role.UnknownAnnotation is = absurd (grind (arith, is))
  refers-by role.Skipped is = absurd (grind (arith, is))
  refers-by (role.Annotation at) is = absurd (grind (arith, is))
  refers-by (role.Annotations at) is = absurd (grind (arith, is))

  -- the definition that a format names is a part of it
  definition-part : (own format : Site) → is_format (role_of documents own) ≡ true → (after : IsAfter documents own format)
      → Contains (parts_of documents own) (number_of documents after.named.definition)
  definition-part own format is after =
      Contains-append_right (flat_map (number_inside documents own) (node_at (nodes_of documents own.document) own.element).children) _ _
      (Contains-append_left (flat_map (numbers_referred documents own) (referring (role_of documents own)))
      (flat_map (numbers_referred documents own) (naming_properties (role_of documents own))) _
      (subst (λ (rows : List Referring). Contains (flat_map (numbers_referred documents own) rows) (number_of documents after.named.definition))
      (sym (refers-by (role_of documents own) is))
      (in-flat (numbers_referred documents own) (Plain (codes "ref") kind.Format ∷ []) (Plain (codes "ref") kind.Format) _ (zero, omega arith, refl) named)))
    where
      named : Contains (numbers_referred documents own (Plain (codes "ref") kind.Format)) (number_of documents after.named.definition)
      named =
          subst (λ (o : Option (List ℕ)). Contains (numbers_named documents own kind.Format o) (number_of documents after.named.definition)) (sym after.written)
          (subst (λ (o : Option Named). Contains (component_numbers documents o) (number_of documents after.named.definition)) (sym after.named.named)
          (subst (λ (ns : List ℕ). Contains ns (number_of documents after.named.definition))
          (sym (taken (number_of documents after.named.definition) (number-below documents after.named.definition after.named.defined.is))) (in-one _)))

  -- the format in a definition is a part of that
  format-part : (definition format : Site) → IsDefined documents definition format → Contains (parts_of documents definition) (number_of documents format)
  format-part definition format is =
      Contains-append_left (flat_map (number_inside documents definition) (node_at (nodes_of documents definition.document) definition.element).children) _ _
      (in-flat (number_inside documents definition) (node_at (nodes_of documents definition.document) definition.element).children format.element _ is.child
      (subst (λ (ns : List ℕ). Contains ns (number_of documents format))
      (sym (subst (λ (d : ℕ). if_element documents (start_of documents d + format.element) ≡ number_of documents format ∷ []) is.document
      (taken (number_of documents format) (number-below documents format is.found.is)))) (in-one _)))

  module _ (order : Places) (ordered : IsOrder (all_uses documents) order) where
    rank : Site → ℕ
    rank own = get_or order.rank (number_of documents own) 0

    count-uses : length (all_uses documents) ≡ count_of documents
    count-uses = ap length (uses-each documents) ∙ (length-map (all_sites documents) (parts_of documents) ∙ length-sites documents)

    -- a part stands before
    part-before : (own part : Site) → IsSite documents own → Contains (parts_of documents own) (number_of documents part)
        → get_or order.rank (number_of documents part) 0 < get_or order.rank (number_of documents own) 0
    part-before own part is has =
        let low : number_of documents own < length (all_uses documents) = subst (λ (n : ℕ). number_of documents own < n) (sym count-uses) (number-below documents own is) in
        let parts : uses_of (all_uses documents) (number_of documents own) ≡ parts_of documents own
        = ap (λ (u : List (List ℕ)). get_or u (number_of documents own) []) (uses-each documents) ∙ value-at documents (parts_of documents) own [] is in
        (All-contains (λ p. (p < length (all_uses documents)) × (get_or order.rank p 0 < get_or order.rank (number_of documents own) 0))
        (uses_of (all_uses documents) (number_of documents own)) (number_of documents part) (ordered.falls (number_of documents own) low)
        (subst (λ (ps : List ℕ). Contains ps (number_of documents part)) (sym parts) has)).1

    -- and so does the format that a format refers to
    format-before : (own format : Site) → IsSite documents own → is_format (role_of documents own) ≡ true → format_after documents own ≡ Some format
        → (number_of documents format < count_of documents) × (get_or order.rank (number_of documents format) 0 < get_or order.rank (number_of documents own) 0)
    format-before own format is role at =
        let after = is-after documents own format at in
        let first = part-before own after.named.definition is (definition-part own format role after) in
        let second = part-before after.named.definition format after.named.defined.is (format-part after.named.definition format after.named.defined) in
        (number-below documents format after.named.defined.found.is, omega (arith, first, second))

    -- the formats that formats refer to
    uses : List (List ℕ)
    uses = formats.parts_of (for_each documents (number_after documents))

    count : length (formats.parts_of (for_each documents (number_after documents))) ≡ count_of documents
    count =
        length-map (for_each documents (number_after documents)) option_to_list
        ∙ (length-map (all_sites documents) (number_after documents) ∙ length-sites documents)

    falls-at : (own : Site) → IsSite documents own
        → All (λ p. (p < count_of documents) × (get_or order.rank p 0 < get_or order.rank (number_of documents own) 0)) (option_to_list (number_after documents own))
    unfolding number_after
    falls-at own is = by (is_format (role_of documents own)) (format_after documents own) refl refl
      where
        by : (b : Bool) (o : Option Site) → is_format (role_of documents own) ≡ b → format_after documents own ≡ o
            → All (λ p. (p < count_of documents) × (get_or order.rank p 0 < get_or order.rank (number_of documents own) 0))
            (option_to_list (if b then option_map (number_of documents) o else None))
        by false o role at = All-nil (λ p. (p < count_of documents) × (get_or order.rank p 0 < get_or order.rank (number_of documents own) 0))
        by true None role at = All-nil (λ p. (p < count_of documents) × (get_or order.rank p 0 < get_or order.rank (number_of documents own) 0))
        by true (Some format) role at = All-cons
            (λ p. (p < count_of documents) × (get_or order.rank p 0 < get_or order.rank (number_of documents own) 0)) (number_of documents format) []
            (format-before own format is role at)
            (All-nil (λ p. (p < count_of documents) × (get_or order.rank p 0 < get_or order.rank (number_of documents own) 0)))

    -- the order of the elements is one of the formats
    pub formats-ordered : IsOrder (formats.parts_of (for_each documents (number_after documents))) order
    formats-ordered = record {
      listed = ordered.listed ∙ (count-uses ∙ sym count);
      ranked = ordered.ranked ∙ (count-uses ∙ sym count);
      place = λ c low. let there = ordered.place c (omega (arith, low, count, count-uses)) in (omega (arith, there, count, count-uses), there.1);
      component = λ i low. let there = ordered.component i (omega (arith, low, count, count-uses)) in (omega (arith, there, count, count-uses), there.1);
      falls = λ c low. by c (numbered documents c (subst (λ (n : ℕ). c < n) count low));
    }
      where
        by : (c : ℕ) → IsNumbered documents c
            → All (λ p. (p < length (formats.parts_of (for_each documents (number_after documents)))) × (get_or order.rank p 0 < get_or order.rank c 0))
            (uses_of (formats.parts_of (for_each documents (number_after documents))) c)
        by c there =
            subst (λ (k : ℕ). All (λ p. (p < length (formats.parts_of (for_each documents (number_after documents)))) × (get_or order.rank p 0 < get_or order.rank k 0))
            (uses_of (formats.parts_of (for_each documents (number_after documents))) k)) there.number
            (subst (λ (n : ℕ). All (λ p. (p < n) × (get_or order.rank p 0 < get_or order.rank (number_of documents there.own) 0))
            (uses_of (formats.parts_of (for_each documents (number_after documents))) (number_of documents there.own))) (sym count)
            (subst (λ (ps : List ℕ). All (λ p. (p < count_of documents) × (get_or order.rank p 0 < get_or order.rank (number_of documents there.own) 0)) ps)
            (sym (parts-at there.own there.is)) (falls-at there.own there.is)))
          where
            parts-at : (own : Site) → IsSite documents own
                → uses_of (formats.parts_of (for_each documents (number_after documents))) (number_of documents own) ≡ option_to_list (number_after documents own)
            parts-at own is =
                get_or-map option_to_list (for_each documents (number_after documents)) (number_of documents own) None [] (in-each (number-below documents own is))
                ∙ ap option_to_list (value-at documents (number_after documents) own None is)
              where
                in-each : number_of documents own < count_of documents → number_of documents own < length (for_each documents (number_after documents))
                in-each low = subst (λ (n : ℕ). number_of documents own < n) (sym (length-map (all_sites documents) (number_after documents) ∙ length-sites documents)) low

-- the same of what is seen of the order and of the formats
pub formats_ordered : (documents : List SchemaDocument) (order : Places) (after : List (Option ℕ)) → IsOrder (all_uses documents) order
    → after ≡ for_each documents (number_after documents) → IsOrder (formats.parts_of after) order
formats_ordered documents order after ordered is =
    subst (λ (ns : List (Option ℕ)). IsOrder (formats.parts_of ns) order) (sym is) (formats-ordered documents order ordered)
