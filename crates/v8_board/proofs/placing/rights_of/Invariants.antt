use Rattle.std.proofs.Common.{◌≡◌, ◌≤◌, take, length}
use Rattle.sbx_image.specs.Regions.{page_rights}
use Rattle.v8_board.proofs.placing.rights_of.Given as goal

abbrev pub invariant-loop-region : goal.invariant-loop-region
invariant-loop-region l = record {
  size : length l.rights ≡ 64;
  count : l.pages ≡ length (page_rights (take l.region-index l.regions));
  few : l.pages ≤ 64;
  rights : take l.pages l.rights ≡ page_rights (take l.region-index l.regions);
}
