-- What the passes keep of the lines so far, for their own contracts.
use Rattle.std.specs.Prelude.{◌≡◌, ℕ, min, List, [], ◌++◌, length, map, get_or}
use Rattle.std.specs.List.{list_any, flat_map, fold}
use Rattle.std.specs.Str.{bytes_eq}
use Rattle.std.specs.HashMap.{get_by}
use Rattle.sbx_image.specs.Region.{Region}
use Rattle.sbx_asm.specs.declared.data.Data.{Data}
use Rattle.sbx_asm.specs.declared.table.Table.{Table}
use Rattle.sbx_asm.specs.declared.notes.Notes.{Notes}
use Rattle.sbx_asm.specs.declared.place.LocationCounter.{LocationCounter}
use Rattle.sbx_asm.specs.declared.context.Locations.{Locations}
use Rattle.sbx_asm.specs.declared.context.Context.{Context}
use Rattle.sbx_asm.specs.declared.survey.Survey.{Survey}
use Rattle.sbx_asm.specs.Items.{Item, Cell, Term, each, up_to, count, starts_function, ends_function, is_block}
use Rattle.sbx_asm.specs.Items.{ends_block, is_data, is_region, in_function, block_count, services, stacks, params}
use Rattle.sbx_asm.specs.Items.{results, depths, cells, terms, has}
use Rattle.sbx_asm.specs.Addresses.{Label, in_code, code_address, region_start, data_offset, worth_in}
use Rattle.sbx_asm.specs.Rules.{Cause, Values, at, told, duplicates, acts, has_fuel}
use Rattle.sbx_asm.specs.Images.{filled, region_with, bytes_at, region_at}

-- what a name is worth in a table
abbrev pub worth : Table → Values
worth t name = get_by (λ k. bytes_eq name k.now) t.entries

-- the place of a line behind some others, the nearest first
abbrev pub place_at : List Item → LocationCounter
place_at before =
    record {
      in_code = in_code before;
      next_word = code_address before;
      has_region =
          list_any is_region before;
      region_start = region_start before;
      region_bytes = data_offset before;
    }

-- a survey of some labels has the worth of each, and the faults of those that stand twice
abbrev pub IsSurvey : List Label → Survey → Type 0
IsSurvey labels s = (worth s.table ≡ worth_in labels) × (s.repeats.items ≡ duplicates [] labels)

-- some more causes at the line of the notes
abbrev pub noted : List Cause → Notes → Notes
noted causes n = record n { fault = fold told n.fault (map (at n.line) causes) }

-- the regions that some lines complete, the newest one so far, and what the lines to come make of it
abbrev pub regions_with : Values → Data → List Item → List Item → List Region
regions_with values d before after =
    d.regions.items
    ++ (region_with d.writable (filled (d.bytes.items ++ each (bytes_at values) before (up_to is_region after)))
    ++ each (region_at values) before after)

-- how many locations, up to the most that a rule allows, and the last one, the nearest first
abbrev pub locations_of : ℕ → List ℕ → Locations
locations_of most locations = record { count = min most (length locations); last = get_or locations 0 0 }

-- What the rules of a line ask of the lines before it: counts, up to the most that a rule allows, and tests.
abbrev pub context_at : Values → List Item → Context
context_at values before =
    let of_function : List Item = up_to ends_function before in
    let of_block : List Item = up_to ends_block before in
    record {
      place = place_at before;
      totals = record {
        functions = min 256 (count starts_function before);
        blocks = min 4096 (block_count before);
        regions = min 8 (count is_region before);
        has_data = list_any is_data before;
        has_services = list_any (has services) before;
        has_stack = list_any (has stacks) before;
      };
      function = record {
        is_open = in_function before;
        has_block = list_any is_block of_function;
        has_depth = list_any (has depths) of_function;
        params = min 6 (length (flat_map params of_function));
        results = min 6 (length (flat_map results of_function));
      };
      block = record {
        has_acted = list_any (acts values) of_block;
        has_fuel = has_fuel values before;
        cells = locations_of 64 (map (λ (c : Cell). c.location) (flat_map cells of_block));
        terms = locations_of 8 (map (λ (t : Term). t.location) (flat_map terms of_block));
      };
    }
