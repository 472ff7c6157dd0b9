-- A table of formats that is filled along an order.
use Rattle.std.proofs.Common.{◌≡◌, refl, sym, subst, ap, ◌∙◌, ℕ, ◌+◌, ◌<◌, List, [], ◌∷◌, length, map, set, get_or, All, Option, Some, None, option_to_list, arith}
use Rattle.std.specs.Option.{option_or}
use Rattle.std.proofs.lemmas.List.{get_or-map, map-set, length-map}
use Rattle.dfdl_order.specs.Parts.{uses_of, IsOrder, Places}
use Rattle.dfdl_order.specs.Folds.{HasBefore}
use Rattle.dfdl_order.proofs.Over.{has_more}
use Rattle.dfdl_scope.specs.Scoping.{Given, nothing, nearer}
use Rattle.dfdl_scope.specs.Shown.{given, format_given}
use Rattle.dfdl_scope.specs.declared.properties.Properties.{Properties}
use Rattle.dfdl_scope.specs.declared.format.Format.{Format}
use Rattle.dfdl_properties.specs.Formats.{parts_of, own_of, joined_step}
use Rattle.dfdl_properties.specs.Shown.{value_by_format, values_by_formats}

-- the part of a format
pub parts-at : (refers : List (Option ℕ)) (c : ℕ) → c < length refers → uses_of (parts_of refers) c ≡ option_to_list (get_or refers c None)
parts-at refers c within = get_or-map option_to_list refers c None [] within

-- the format that one refers to is in the table
pub next-fits : (refers : List (Option ℕ)) (c next count : ℕ) → c < length refers → get_or refers c None ≡ Some next
    → All (λ p. p < count) (uses_of (parts_of refers) c) → next < count
next-fits refers c next count within is all =
    let each : All (λ (p : ℕ). p < count) (next ∷ []) = subst (λ (ps : List ℕ). All (λ (p : ℕ). p < count) ps) (parts-at refers c within ∙ ap option_to_list is) all in
    each 0 0 (omega arith)

or-none : (x : Option (List ℕ)) → x ≡ option_or x None
or-none None = refl
or-none (Some x) = refl

-- what a format gives by itself
own-at : (own : List Properties) (c : ℕ) (p : Properties) (q : List ℕ) → c < length own → given (get_or own c p) q ≡ own_of (map given own) c q
own-at own c p q within = ap (λ (g : Given). g q) (sym (get_or-map given own c p nothing within))

-- the step of a format that refers to another
pub step-some : (own : List Properties) (formats : List Format) (refers : List (Option ℕ)) (c next : ℕ) (p : Properties) (f : Format) (q : List ℕ)
    → c < length own → c < length refers → next < length formats → get_or refers c None ≡ Some next
    → nearer (given (get_or own c p)) (format_given (get_or formats next f)) q
    ≡ joined_step (map given own) q c (values_by_formats formats q (uses_of (parts_of refers) c))
step-some own formats refers c next p f q within there below is =
    ap (λ (v : Option (List ℕ)). option_or v (format_given (get_or formats next f) q)) (own-at own c p q within)
    ∙ (ap (option_or (own_of (map given own) c q)) (sym (get_or-map (λ (g : Format). format_given g q) formats next f None below) ∙ or-none (value_by_format formats next q))
    ∙ ap (λ (ps : List ℕ). joined_step (map given own) q c (values_by_formats formats q ps)) (sym (parts-at refers c there ∙ ap option_to_list is)))

-- the step of a format that refers to none
pub step-none : (own : List Properties) (formats : List Format) (refers : List (Option ℕ)) (c : ℕ) (p : Properties) (q : List ℕ)
    → c < length own → c < length refers → get_or refers c None ≡ None
    → nearer (given (get_or own c p)) nothing q
    ≡ joined_step (map given own) q c (values_by_formats formats q (uses_of (parts_of refers) c))
step-none own formats refers c p q within there is =
    ap (λ (v : Option (List ℕ)). option_or v None) (own-at own c p q within)
    ∙ ap (λ (ps : List ℕ). joined_step (map given own) q c (values_by_formats formats q ps)) (sym (parts-at refers c there ∙ ap option_to_list is))

-- the parts of a format in an order are in a table as long as the order
pub parts-fit : (uses : List (List ℕ)) (order : Places) (c count : ℕ) → IsOrder uses order → c < length uses → count ≡ length uses → All (λ p. p < count) (uses_of uses c)
parts-fit uses order c count is within long = λ k d small. subst (λ (n : ℕ). get_or (uses_of uses c) k d < n) (sym long) (is.falls c within k d small).0

-- one more format is joined
pub more-joined : (own : List Properties) (refers : List (Option ℕ)) (order : Places) (at : ℕ) (formats : List Format) (made : Format) (q : List ℕ)
    → IsOrder (parts_of refers) order → at < length refers → length formats ≡ length refers
    → HasBefore (parts_of refers) order (joined_step (map given own) q) None at (map (λ f. format_given f q) formats)
    → format_given made q ≡ joined_step (map given own) q (get_or order.list at 0) (values_by_formats formats q (uses_of (parts_of refers) (get_or order.list at 0)))
    → HasBefore (parts_of refers) order (joined_step (map given own) q) None (at + 1) (map (λ f. format_given f q) (set formats (get_or order.list at 0) made))
more-joined own refers order at formats made q is within long before step =
    let same : length (parts_of refers) ≡ length refers = length-map refers option_to_list in
    subst (λ (table : List (Option (List ℕ))). HasBefore (parts_of refers) order (joined_step (map given own) q) None (at + 1) table)
    (sym (map-set (λ (f : Format). format_given f q) formats (get_or order.list at 0) made))
    (has_more (parts_of refers) order (joined_step (map given own) q) None is at (map (λ (f : Format). format_given f q) formats) (format_given made q)
    (subst (λ (n : ℕ). at < n) (sym same) within) (length-map formats (λ (f : Format). format_given f q) ∙ (long ∙ sym same)) before step)

-- the same where the order and the table are listed so
module _ (refers : List (Option ℕ)) (order : Places) (is : IsOrder (parts_of refers) order) (list : List ℕ) (listed : list ≡ order.list) (at : ℕ) (small : at < length list)
    (formats table : List Format) (seen : table ≡ formats) (long : length formats ≡ length refers) where
  below : at < length (parts_of refers)
  below = subst (λ (n : ℕ). at < n) (ap length listed ∙ is.listed) small

  pub listed-fits : get_or list at 0 < length refers
  listed-fits =
      subst (λ (l : List ℕ). get_or l at 0 < length refers) (sym listed)
      (subst (λ (n : ℕ). get_or order.list at 0 < n) (length-map refers option_to_list) (is.component at below).0)

  pub listed-parts-fit : All (λ p. p < length table) (uses_of (parts_of refers) (get_or list at 0))
  listed-parts-fit =
      parts-fit (parts_of refers) order (get_or list at 0) (length table) is
      (subst (λ (n : ℕ). get_or list at 0 < n) (sym (length-map refers option_to_list)) listed-fits)
      (ap length seen ∙ (long ∙ sym (length-map refers option_to_list)))

  pub listed-joined : (own : List Properties) (made : Format) (q : List ℕ)
      → HasBefore (parts_of refers) order (joined_step (map given own) q) None at (map (λ f. format_given f q) formats)
      → format_given made q ≡ joined_step (map given own) q (get_or list at 0) (values_by_formats table q (uses_of (parts_of refers) (get_or list at 0)))
      → HasBefore (parts_of refers) order (joined_step (map given own) q) None (at + 1) (map (λ f. format_given f q) (set formats (get_or list at 0) made))
  listed-joined own made q before step =
      subst (λ (l : List ℕ).
      format_given made q ≡ joined_step (map given own) q (get_or l at 0) (values_by_formats formats q (uses_of (parts_of refers) (get_or l at 0)))
      → HasBefore (parts_of refers) order (joined_step (map given own) q) None (at + 1) (map (λ (f : Format). format_given f q) (set formats (get_or l at 0) made)))
      (sym listed)
      (more-joined own refers order at formats made q is (subst (λ (n : ℕ). at < n) (length-map refers option_to_list) below) long before)
      (step ∙ ap (λ (fs : List Format). joined_step (map given own) q (get_or list at 0) (values_by_formats fs q (uses_of (parts_of refers) (get_or list at 0)))) seen)
