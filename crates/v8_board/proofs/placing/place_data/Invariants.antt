use Rattle.std.proofs.Common.{◌≡◌, ◌*◌, ◌≤◌, length, take}
use Rattle.v8_contained.specs.Placing.{HasBytesOf}
use Rattle.v8_map.specs.declared.TheConstants.{DATA_PLACE}
use Rattle.sbx_image.specs.Regions.{laid, page_rights}
use Rattle.v8_board.proofs.placing.place_data.Given as goal

abbrev pub invariant-loop-region : goal.invariant-loop-region
invariant-loop-region g l = record {
  count : l.pages ≡ length (page_rights (take l.region-index l.regions));
  few : l.pages ≤ 64;
  bytes : HasBytesOf DATA_PLACE (laid (take l.region-index l.regions)) (4096 * l.pages) l.initial.memory.ram l.memory.ram;
  port : l.memory.port ≡ l.initial.memory.port;
  ended : l.memory.ended ≡ l.initial.memory.ended;
  stopped : l.memory.stopped ≡ l.initial.memory.stopped;
}
