-- A start tag with one attribute more is sound, where its name is new and what it declares is.
use Rattle.std.proofs.Common.{◌≡◌, ℕ, false, List, [], ◌∷◌, ◌++◌}
use Rattle.std.proofs.Common.{Option, Some, None, refl, ap, sym, subst, ◌∙◌}
use Rattle.std.proofs.lemmas.Bool.{or_parts}
use Rattle.std.proofs.lemmas.List.{append-nil, map-append}
use Rattle.std.proofs.lemmas.List.Elements.{filter_map-append}
use Rattle.std.specs.List.{list_any, cons_option}
use Rattle.dfdl_layers.specs.Tellers.{Each}
use Rattle.dfdl_markup.specs.Grammar.{Name}
use Rattle.dfdl_markup.specs.Values.{Attribute, declares, same_name, Binding, bound_to, bindings_of}
use Rattle.dfdl_markup.specs.Values.{binding_of, same_expanded, have_same, names_of}
use Rattle.dfdl_markup.specs.Rules.{IsName}
use Rattle.dfdl_markup.specs.Machine.{StartTag, OpenValue, with_value, has_sure_clash}
use Rattle.dfdl_markup.proofs.Sound.{MayStand, SoundTag, SoundName}
use Rattle.dfdl_markup.proofs.TagNamespaces.{have_same_push, none_like_last, none_same}
use Rattle.dfdl_markup.proofs.TagNamespaces.{IsNewBinding, new_pair}
use Rattle.dfdl_markup.proofs.TagValues.{each_push, with_attribute}

-- what a value declares is bound to no other prefix
abbrev pub IsNewOf : Option (List ℕ) → List ℕ → List Binding → Type 0
IsNewOf None value bindings = Unit {0}
IsNewOf (Some prefix) value bindings = Each (IsNewBinding prefix value) bindings

module _ (tag : StartTag) (name : Name) (value : List ℕ) where
  pub names_push : names_of (with_attribute tag name value).attributes ≡ names_of tag.attributes ++
      name ∷ []
  names_push = map-append (λ (a : Attribute). a.name) tag.attributes
      (record { name = name; value = value } ∷ [])

  pub bindings_push : bindings_of (with_attribute tag name value).attributes
      ≡ bindings_of tag.attributes ++ cons_option (bound_to value (declares name)) []
  bindings_push = filter_map-append binding_of tag.attributes
      (record { name = name; value = value } ∷ [])

  any_name : (names : List Name) → Each (λ (other : Name). Unit {0}) names
  any_name [] = tt
  any_name (other ∷ names) = (tt, any_name names)

  expanded_by : (o : Option (List ℕ)) → SoundName tag name → IsNewOf o value
      (bindings_of tag.attributes)
      → have_same (same_expanded (bindings_of tag.attributes ++ cons_option (bound_to value o) []))
      (names_of tag.attributes ++ name ∷ []) ≡ false
  expanded_by None sound new =
      let parts =
      or_parts (list_any (λ other. same_name other name) (names_of tag.attributes))
      (list_any (λ other. same_expanded (bindings_of tag.attributes) other name)
      (names_of tag.attributes))
      sound.2 in
      ap (λ scope. have_same (same_expanded scope) (names_of tag.attributes ++ name ∷ []))
      (append-nil (bindings_of tag.attributes))
      ∙ have_same_push (same_expanded (bindings_of tag.attributes)) (names_of tag.attributes) name
      sound.0.expanded parts.1
  expanded_by (Some p) sound new =
      let parts =
      or_parts (list_any (λ other. same_name other name) (names_of tag.attributes))
      (list_any (λ other. same_expanded (bindings_of tag.attributes) other name)
      (names_of tag.attributes))
      sound.2 in
      have_same_push
      (same_expanded (bindings_of tag.attributes ++ record { prefix = p; namespace = value } ∷ []))
      (names_of tag.attributes) name
      (none_same (λ (other : Name). Unit {0}) (same_expanded (bindings_of tag.attributes)) same_name
      (same_expanded (bindings_of tag.attributes ++ record { prefix = p; namespace = value } ∷ []))
      (λ x y px py e w. new_pair p value (bindings_of tag.attributes) new x y e w)
      (names_of tag.attributes) (any_name (names_of tag.attributes)) sound.0.expanded
      sound.0.written)
      (none_like_last (λ (other : Name). Unit {0}) (same_expanded (bindings_of tag.attributes))
      same_name
      (same_expanded (bindings_of tag.attributes ++ record { prefix = p; namespace = value } ∷ []))
      (λ x y px py e w. new_pair p value (bindings_of tag.attributes) new x y e w)
      (names_of tag.attributes) name (any_name (names_of tag.attributes)) tt parts.1 parts.0)

  -- where no two names are one by what is declared with it
  pub sound_with_expanded : SoundName tag name → MayStand (record { name = name; value = value })
      → have_same (same_expanded (bindings_of (with_attribute tag name value).attributes))
      (names_of (with_attribute tag name value).attributes) ≡ false
      → SoundTag (with_attribute tag name value)
  sound_with_expanded sound may expanded =
      let parts =
      or_parts (list_any (λ other. same_name other name) (names_of tag.attributes))
      (list_any (λ other. same_expanded (bindings_of tag.attributes) other name)
      (names_of tag.attributes))
      sound.2 in
      record {
        name = sound.0.name;
        names = subst (Each IsName) (sym names_push)
            (each_push IsName (names_of tag.attributes) name sound.0.names sound.1);
        written = ap (have_same same_name) names_push
            ∙ have_same_push same_name (names_of tag.attributes) name sound.0.written parts.0;
        expanded = expanded;
        binds = each_push MayStand tag.attributes (record { name = name; value = value })
            sound.0.binds may;
      }

  pub sound_with : SoundName tag name → MayStand (record { name = name; value = value })
      → IsNewOf (declares name) value (bindings_of tag.attributes)
      → SoundTag (with_attribute tag name value)
  sound_with sound may new =
      sound_with_expanded sound may
      (ap (λ scope. have_same (same_expanded scope)
      (names_of (with_attribute tag name value).attributes)) bindings_push
      ∙ ap (have_same (same_expanded
      (bindings_of tag.attributes ++ cons_option (bound_to value (declares name)) []))) names_push
      ∙ expanded_by (declares name) sound new)

-- behind a closing quote
sure_by : (v : OpenValue) (o : Option (List ℕ)) → declares v.name ≡ o → SoundName v.tag v.name
    → MayStand (record { name = v.name; value = v.text })
    → has_sure_clash o (with_value v).attributes ≡ false → SoundTag (with_value v)
sure_by v None is sound may sure =
    sound_with v.tag v.name v.text sound may
    (subst (λ o. IsNewOf o v.text (bindings_of v.tag.attributes)) (sym is) tt)
sure_by v (Some prefix) is sound may sure = sound_with_expanded v.tag v.name v.text sound may sure

pub sound_quoted : (v : OpenValue) → SoundName v.tag v.name
    → MayStand (record { name = v.name; value = v.text })
    → has_sure_clash (declares v.name) (with_value v).attributes ≡ false → SoundTag (with_value v)
sound_quoted v sound may sure = sure_by v (declares v.name) refl sound may sure
