-- What the rules ask of the lines of a block, with one more line.
use Rattle.std.proofs.Common.{◌≡◌, Bool, false, List, [], ◌∷◌, ◌++◌, map, sym, ◌∙◌}
use Rattle.std.specs.Prelude.{◌||◌, if◌then◌else◌}
use Rattle.std.specs.List.{flat_map, list_any}
use Rattle.sbx_asm.specs.declared.context.BlockContext.{BlockContext}
use Rattle.sbx_asm.specs.declared.context.Locations.{Locations}
use Rattle.sbx_asm.specs.Items.{Item, Cell, Term, up_to, ends_block, cells, terms}
use Rattle.sbx_asm.specs.Rules.{Values, acts, has_fuel}
use Rattle.sbx_asm.specs.Kept.{locations_of, context_at}

abbrev cells_of : List Item → Locations
cells_of own = locations_of 64 (map (λ (c : Cell). c.location) (flat_map cells own))

abbrev terms_of : List Item → Locations
terms_of own = locations_of 8 (map (λ (t : Term). t.location) (flat_map terms own))

module _ (values : Values) (before : List Item) (i : Item) where
  abbrev own : Bool → List Item
  own ends = if ends then [] else i ∷ up_to ends_block before

  pub in_block : (self : BlockContext) (acting fuel : Bool) (own_cells own_terms : Locations)
      → ends_block i ≡ false → self ≡ (context_at values before).block → acting ≡ acts values i → fuel ≡ has_fuel values (i ∷ before)
      → own_cells ≡ locations_of 64 (map (λ (c : Cell). c.location) (cells i ++ flat_map cells (up_to ends_block before)))
      → own_terms ≡ locations_of 8 (map (λ (t : Term). t.location) (terms i ++ flat_map terms (up_to ends_block before)))
      → (let b : BlockContext = record { has_acted = acting || self.has_acted; has_fuel = fuel; cells = own_cells; terms = own_terms } in b) ≡ (context_at values (i ∷ before)).block
  in_block self acting fuel own_cells own_terms goes_on h a f c t =
      (λ j. let b : BlockContext = record { has_acted = a j || (h j).has_acted; has_fuel = f j; cells = c j; terms = t j } in b)
      ∙ (λ j. let mine : List Item = own (sym goes_on j) in
      let b : BlockContext =
      record { has_acted = list_any (acts values) mine; has_fuel = has_fuel values (i ∷ before); cells = cells_of mine; terms = terms_of mine } in b)
